use Rattle.std.proofs.Common.{refl}
use Rattle.acq_make.proofs.OnLiterals.{said_on_literals}
use Rattle.acq_make.proofs.laws.worked_contents.Goals as goal

pub returns : goal.returns
unfolding said_on_literals
returns c = record {
  code = refl;
  other = refl;
  original = refl;
  hidden = refl;
  column = refl;
  number = refl;
}
