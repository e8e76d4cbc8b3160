use Rattle.acq_recall.proofs.RecalledRows.{nothing_said}
use Rattle.acq_recall.proofs.recollection.Recollection.nothing.Goals as goal

pub returns : goal.returns
returns c t = record {
  row = tt;
  merchants = nothing_said _ _ c.new.ensures;
  terminals = nothing_said _ _ c.new-2.ensures;
  ranges = nothing_said _ _ c.new-3.ensures;
  enrolled_counts = c.nothing.ensures t.terminals t.ranges;
  counts = c.nothing-2.ensures t.requests;
  waiting = c.nothing-3.ensures t.requests;
}
