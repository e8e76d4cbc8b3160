use Rattle.acq_recall.proofs.RecalledRows.{counts_restated}
use Rattle.acq_recall.proofs.recollection.Recollection.restate.Goals as goal

pub returns : goal.returns
returns c t change restates is = record {
  row = is.row;
  merchants = is.merchants;
  terminals = is.terminals;
  ranges = is.ranges;
  enrolled_counts = is.enrolled_counts;
  counts = counts_restated c.args.self.now.counts t.requests c.args.key.now c.args.status change
      restates is.counts;
  waiting = c.restate.ensures t.requests change restates is.waiting;
}
