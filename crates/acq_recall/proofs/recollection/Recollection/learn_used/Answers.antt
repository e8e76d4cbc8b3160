use Rattle.acq_recall.proofs.recollection.Recollection.learn_used.Goals as goal

pub returns-in-Some-Some-clause-keeps : goal.returns-in-Some-Some-clause-keeps
returns-in-Some-Some-clause-keeps c t is = record {
  row = is.row;
  merchants = is.merchants;
  terminals = is.terminals;
  ranges = is.ranges;
  enrolled_counts = is.enrolled_counts;
  counts = c.note_used.ensures.keeps t.requests is.counts;
  waiting = is.waiting;
}
