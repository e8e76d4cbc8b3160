use Rattle.std.proofs.Common.{refl}
use Rattle.acq_reports.proofs.OnLiterals.{reports_on_literals}
use Rattle.acq_statement.proofs.laws.worked_sums.Goals as goal

pub returns : goal.returns
unfolding reports_on_literals
returns c = record { two = refl; none = refl }
