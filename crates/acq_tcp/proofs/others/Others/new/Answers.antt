use Rattle.acq_tcp.proofs.others.Others.new.Goals as goal

pub returns : goal.returns
returns c = λ t. record { controls = c.requires t; gateways = c.new.ensures t }
