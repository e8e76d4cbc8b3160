use Rattle.std.proofs.Common.{refl}
use Rattle.acq_show.proofs.OnLiterals.{shown_on_literals}
use Rattle.acq_show.proofs.laws.worked_texts.Goals as goal

pub returns : goal.returns
unfolding shown_on_literals
returns c = record { echo = refl; bit_65 = refl; short = refl }
