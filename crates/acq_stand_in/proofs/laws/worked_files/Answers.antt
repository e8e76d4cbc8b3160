use Rattle.std.proofs.Common.{refl}
use Rattle.csv.proofs.OnLiterals.{csv_on_literals}
use Rattle.acq_stand_in.proofs.laws.worked_files.Goals as goal

pub returns : goal.returns
unfolding csv_on_literals
returns c = record {
  empty = refl;
  approved = refl;
  three = refl;
  no_card = refl;
  two_fields = refl;
  four_fields = refl;
  seven_digits = refl;
  eight_digits = refl;
  no_digits = refl;
  letter = refl;
  five_fields = refl;
  code_00 = refl;
  short_id = refl;
  text = refl;
  word = refl;
}
