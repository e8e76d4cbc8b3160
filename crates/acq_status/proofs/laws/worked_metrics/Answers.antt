use Rattle.std.proofs.Common.{refl}
use Rattle.acq_reports.proofs.OnLiterals.{reports_on_literals}
use Rattle.acq_status.specs.Texts.{metric, pending_sample}
use Rattle.acq_status.proofs.laws.worked_metrics.Goals as goal

pub returns : goal.returns
unfolding reports_on_literals metric pending_sample
returns c = record { gauge = refl; counter = refl; day = refl }
