use Rattle.std.proofs.Common.{refl}
use Rattle.acq_reports.proofs.OnLiterals.{reports_on_literals}
use Rattle.acq_status.proofs.laws.worked_reply_metrics.Goals as goal

pub returns : goal.returns
unfolding reports_on_literals
returns c = record { codes = refl; durations = refl; quiet = refl }
