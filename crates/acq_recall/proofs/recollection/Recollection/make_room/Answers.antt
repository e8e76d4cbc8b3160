use Rattle.acq_recall.proofs.RecalledRows.{fewer_said}
use Rattle.acq_recall.proofs.recollection.Recollection.make_room.Goals as goal

pub returns : goal.returns
returns c t is = record {
  row = is.row;
  merchants = fewer_said _ _ _ c.make_room.ensures is.merchants;
  terminals = fewer_said _ _ _ c.make_room-2.ensures is.terminals;
  ranges = fewer_said _ _ _ c.make_room-3.ensures is.ranges;
  enrolled_counts = is.enrolled_counts;
  counts = c.make_room-4.ensures t.requests is.counts;
  waiting = is.waiting;
}
