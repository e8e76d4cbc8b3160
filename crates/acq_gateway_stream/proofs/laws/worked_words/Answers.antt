use Rattle.std.proofs.Common.{refl}
use Rattle.acq_reports.proofs.OnLiterals.{reports_on_literals}
use Rattle.acq_gateway_stream.proofs.laws.worked_words.Goals as goal

pub returns : goal.returns
unfolding reports_on_literals
returns c = record {
  done = refl;
  late = refl;
  missing = refl;
  bad = refl;
}
