use Rattle.std.proofs.Common.{refl}
use Rattle.acq_out.proofs.OnLiterals.{out_on_literals}
use Rattle.acq_out.proofs.laws.worked_event_lines.Goals as goal

pub returns : goal.returns
unfolding out_on_literals
returns c = record {
  none = refl;
  frame = refl;
  empty_frame = refl;
  approved = refl;
  declined = refl;
  no_answer = refl;
  cutover = refl;
  ranges = refl;
  names = refl;
  mark = refl;
}
