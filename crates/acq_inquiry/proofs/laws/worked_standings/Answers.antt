use Rattle.std.proofs.Common.{refl}
use Rattle.acq_inquiry.proofs.OnLiterals.{inquiries_on_literals}
use Rattle.acq_inquiry.proofs.laws.worked_standings.Goals as goal

pub returns : goal.returns
unfolding inquiries_on_literals
returns c = record {
  lowered = refl;
  held = refl;
  waits = refl;
  none = refl;
  many = refl;
  enough = refl;
}
