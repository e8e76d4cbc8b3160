use Rattle.std.proofs.Common.{refl}
use Rattle.acq_inquiry.proofs.OnLiterals.{inquiries_on_literals}
use Rattle.acq_inquiry.proofs.laws.worked_ends.Goals as goal

pub returns : goal.returns
unfolding inquiries_on_literals
returns c = record {
  completed = refl;
  waited = refl;
  refused = refl;
}
