use Rattle.std.proofs.Common.{refl}
use Rattle.acq_stand_in.proofs.laws.worked_verdicts.Goals as goal

pub returns : goal.returns
returns c = record { approved = refl; first = refl; other = refl }
