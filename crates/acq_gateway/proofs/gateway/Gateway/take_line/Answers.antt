-- a line that is out of its form
use Rattle.acq_gateway.proofs.Taking.{takes_bad}
use Rattle.acq_gateway.proofs.gateway.Gateway.take_line.Goals as goal

pub returns-in-Ok : goal.returns-in-Ok
returns-in-Ok c =
    let put = c.in-Ok.ensures in
    takes_bad c.args.self.now c.put_bad_line.new.self c.saturating_add.result put.output put.rows
    put.from put.gone
