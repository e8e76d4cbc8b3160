use Rattle.std.proofs.Common.{refl}
use Rattle.acq_out.proofs.OnLiterals.{out_on_literals}
use Rattle.acq_out.proofs.laws.worked_bad_lines.Goals as goal

pub returns : goal.returns
unfolding out_on_literals
returns c = record {
  second = refl;
  first = refl;
  unused = refl;
  early = refl;
  odd = refl;
  no_name = refl;
  long_name = refl;
  zero = refl;
  code_00 = refl;
  six_digits = refl;
}
