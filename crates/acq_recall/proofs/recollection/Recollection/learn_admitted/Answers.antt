use Rattle.acq_recall.proofs.recollection.Recollection.learn_admitted.Goals as goal

pub returns-in-Some-clause-keeps : goal.returns-in-Some-clause-keeps
returns-in-Some-clause-keeps c t is = record {
  row = is.row;
  merchants = is.merchants;
  terminals = is.terminals;
  ranges = is.ranges;
  enrolled_counts = is.enrolled_counts;
  counts = c.note_admitted.ensures.keeps t.requests is.counts;
  waiting = is.waiting;
}
