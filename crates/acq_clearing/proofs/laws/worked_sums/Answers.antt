use Rattle.std.proofs.Common.{refl}
use Rattle.csv.proofs.OnLiterals.{csv_on_literals}
use Rattle.acq_reports.proofs.OnLiterals.{reports_on_literals}
use Rattle.acq_clearing.proofs.laws.worked_sums.Goals as goal

pub returns : goal.returns
unfolding reports_on_literals csv_on_literals
returns c = record {
  both = refl;
  other = refl;
  text = refl;
}
