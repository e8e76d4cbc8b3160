use Rattle.std.proofs.Common.{◌∙◌}
use Rattle.acq_gateways.proofs.open_gateway.OpenGateway.send.Goals as goal

pub returns-then-is_some-clause-goes : goal.returns-then-is_some-clause-goes
returns-then-is_some-clause-goes g c = λ t steps h.
    c.write_piece-ended.ensures.goes t steps (c.loop.invariant.goes t steps h)

pub loop-preserved : goal.loop-preserved
loop-preserved g c = record {
  goes = λ t steps h. c.write_piece-ended.ensures.goes t steps (c.loop.invariant.goes t steps h);
  number = c.write_piece-ended.ensures.number ∙ c.loop.invariant.number;
}
