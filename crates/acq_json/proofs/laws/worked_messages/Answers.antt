use Rattle.std.proofs.Common.{refl}
use Rattle.acq_json.proofs.OnLiterals.{lines_on_literals}
use Rattle.acq_json.proofs.laws.worked_messages.Goals as goal

pub returns : goal.returns
unfolding lines_on_literals
returns c = record {
  echo = refl;
  bytes = refl;
  none = refl;
  no_json = refl;
  no_type = refl;
  bad_type = refl;
  more = refl;
  twice = refl;
  zero = refl;
  beyond = refl;
  number = refl;
  wide = refl;
  hidden = refl;
  mask = refl;
  unknown = refl;
  length = refl;
}
