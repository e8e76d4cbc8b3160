use Rattle.acq_history.proofs.BalanceOfReconciliation.{sums_are_totals}
use Rattle.acq_history.proofs.posting_laws.sums_are_totals.Goals as goal

pub returns : goal.returns
returns c = sums_are_totals
