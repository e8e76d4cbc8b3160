use Rattle.std.proofs.Common.{refl}
use Rattle.acq_reports.proofs.OnLiterals.{reports_on_literals}
use Rattle.acq_status.specs.Texts.{pending_line}
use Rattle.acq_status.proofs.laws.worked_status.Goals as goal

pub returns : goal.returns
unfolding reports_on_literals pending_line
returns c = record { quiet = refl; served = refl }
