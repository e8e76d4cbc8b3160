use Rattle.std.proofs.Common.{refl}
use Rattle.acq_json.proofs.OnLiterals.{lines_on_literals}
use Rattle.acq_json.proofs.laws.worked_lines.Goals as goal

pub returns : goal.returns
unfolding lines_on_literals
returns c = record {
  masked = refl;
  whole = refl;
  bytes = refl;
  short = refl;
  lines = refl;
  reply = refl;
}
