-- it goes on
use Rattle.std.proofs.Common.{◌≡◌}
use Rattle.acq_gateways.specs.Following.{GoesOn}
use Rattle.acq_gateways.specs.Told.{seen}
use Rattle.acq_gateways.proofs.open_gateway.OpenGateway.send.Given as goal

abbrev pub invariant-loop : goal.invariant-loop
invariant-loop g l = record {
  goes : GoesOn (seen l.fn.self) (seen l.self);
  number : l.self.number ≡ l.fn.self.number;
}
