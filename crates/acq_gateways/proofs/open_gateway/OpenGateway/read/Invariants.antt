-- nothing went out, and nothing was told
use Rattle.std.proofs.Common.{◌≡◌}
use Rattle.acq_front.specs.Lines.{sent_of}
use Rattle.acq_gateway.specs.Telling.{Stays}
use Rattle.acq_gateways.proofs.open_gateway.OpenGateway.read.Given as goal

abbrev pub invariant-loop : goal.invariant-loop
invariant-loop g l = record {
  went : sent_of l.self.line ≡ sent_of l.fn.self.line;
  number : l.self.number ≡ l.fn.self.number;
  stays : Stays l.fn.self.gateway l.self.gateway;
}
