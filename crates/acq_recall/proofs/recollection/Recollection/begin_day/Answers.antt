use Rattle.acq_recall.proofs.recollection.Recollection.begin_day.Goals as goal

pub returns : goal.returns
returns c t is = record {
  row = c.day_begun-self.ensures t is.row;
  merchants = is.merchants;
  terminals = is.terminals;
  ranges = is.ranges;
  enrolled_counts = is.enrolled_counts;
  counts = c.forget_days.ensures t.requests is.counts;
  waiting = is.waiting;
}
