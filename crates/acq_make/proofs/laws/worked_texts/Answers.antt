use Rattle.std.proofs.Common.{refl}
use Rattle.acq_make.proofs.OnLiterals.{said_on_literals}
use Rattle.acq_make.proofs.laws.worked_texts.Goals as goal

pub returns : goal.returns
unfolding said_on_literals
returns c = record {
  echo = refl;
  two = refl;
  none = refl;
  words = refl;
  of_none = refl;
  behind = refl;
  twice = refl;
  no_type = refl;
  beyond = refl;
  unknown = refl;
  length = refl;
  mask = refl;
}
