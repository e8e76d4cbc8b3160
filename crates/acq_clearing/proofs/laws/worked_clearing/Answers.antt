use Rattle.std.proofs.Common.{refl}
use Rattle.acq_reports.proofs.OnLiterals.{reports_on_literals}
use Rattle.acq_clearing.proofs.laws.worked_clearing.Goals as goal

pub returns : goal.returns
unfolding reports_on_literals
returns c = record {
  text = refl;
  other_day = refl;
  quoted = refl;
}
