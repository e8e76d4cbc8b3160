use Rattle.std.proofs.Common.{refl}
use Rattle.csv.proofs.OnLiterals.{csv_on_literals}
use Rattle.card_no.proofs.laws.worked_files.Goals as goal

pub returns : goal.returns
unfolding csv_on_literals
returns c = record {
  two = refl;
  none = refl;
  fields = refl;
  no_days = refl;
  many_days = refl;
  six_digits = refl;
  three_digits = refl;
}
