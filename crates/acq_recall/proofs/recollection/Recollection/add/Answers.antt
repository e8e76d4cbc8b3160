use Rattle.acq_recall.proofs.recollection.Recollection.add.Goals as goal

pub returns : goal.returns
returns c t new is = record {
  row = is.row;
  merchants = is.merchants;
  terminals = is.terminals;
  ranges = is.ranges;
  enrolled_counts = is.enrolled_counts;
  counts = c.add.ensures t.requests is.counts;
  waiting = c.add-2.ensures t.requests new is.waiting;
}
