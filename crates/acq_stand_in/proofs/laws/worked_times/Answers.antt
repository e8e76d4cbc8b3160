use Rattle.std.proofs.Common.{refl}
use Rattle.acq_stand_in.proofs.laws.worked_times.Goals as goal

pub returns : goal.returns
returns c = record { at_once = refl; later = refl; other = refl }
