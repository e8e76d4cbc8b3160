-- lines were taken
use Rattle.acq_gateway.specs.Telling.{Takes}
use Rattle.acq_gateway.proofs.gateway.Gateway.take_all.Given as goal

abbrev pub invariant-loop : goal.invariant-loop
invariant-loop l = Takes l.fn.self l.self
