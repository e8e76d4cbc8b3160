use Rattle.std.proofs.Common.{refl}
use Rattle.acq_show.proofs.OnLiterals.{shown_on_literals}
use Rattle.acq_show.proofs.laws.worked_contents.Goals as goal

pub returns : goal.returns
unfolding shown_on_literals
returns c = record {
  card = refl;
  least = refl;
  short = refl;
  track = refl;
  no_number = refl;
  block = refl;
  bytes = refl;
  amounts = refl;
  original = refl;
  transaction = refl;
  response = refl;
  unknown = refl;
  settlement = refl;
  network = refl;
}
