use Rattle.acq_recall.proofs.RecalledRows.{nothing_said}
use Rattle.acq_recall.proofs.recollection.Recollection.forget.Goals as goal

pub returns : goal.returns
returns c t = record {
  row = tt;
  merchants = nothing_said _ _ c.clear.ensures;
  terminals = nothing_said _ _ c.clear-2.ensures;
  ranges = nothing_said _ _ c.clear-3.ensures;
  enrolled_counts = c.nothing-self.ensures t.terminals t.ranges;
  counts = c.forget.ensures t.requests;
  waiting = c.forget-2.ensures t.requests;
}
