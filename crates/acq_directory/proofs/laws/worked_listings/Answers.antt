use Rattle.std.proofs.Common.{refl}
use Rattle.acq_reports.proofs.OnLiterals.{reports_on_literals}
use Rattle.acq_directory.proofs.laws.worked_listings.Goals as goal

pub returns : goal.returns
unfolding reports_on_literals
returns c = record {
  merchants = refl;
  terminals = refl;
  ranges = refl;
}
