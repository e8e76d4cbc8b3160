use Rattle.std.proofs.Common.{refl}
use Rattle.acq_reports.proofs.OnLiterals.{reports_on_literals}
use Rattle.acq_range_changes.proofs.laws.worked_changes.Goals as goal

pub returns : goal.returns
unfolding reports_on_literals
returns c = record {
  events = refl;
  lines = refl;
  taken = refl;
  ranges = refl;
}
