use Rattle.std.proofs.Common.{refl}
use Rattle.acq_reports.proofs.OnLiterals.{reports_on_literals}
use Rattle.acq_stand_in.proofs.laws.worked_pending.Goals as goal

pub returns : goal.returns
unfolding reports_on_literals
returns c = record { all = refl; one_day = refl; no_file = refl; other_day = refl }
