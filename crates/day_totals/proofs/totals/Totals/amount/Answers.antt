use Rattle.day_totals.proofs.WithinLimits.{total_for-within}
use Rattle.day_totals.proofs.totals.Totals.amount.Goals as goal

pub returns-clause-bound : goal.returns-clause-bound
returns-clause-bound c =
    rw c.total_for.ensures.value
    (total_for-within c.args.self.now c.args.leg c.total_for.ensures.within).1
