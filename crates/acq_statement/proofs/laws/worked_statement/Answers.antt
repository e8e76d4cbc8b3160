use Rattle.std.proofs.Common.{refl}
use Rattle.iso_codec.proofs.Computing.{on_literals}
use Rattle.acq_reports.proofs.OnLiterals.{reports_on_literals}
use Rattle.acq_statement.proofs.laws.worked_statement.Goals as goal

pub returns : goal.returns
unfolding reports_on_literals on_literals
returns c = record {
  text = refl;
  idle = refl;
}
