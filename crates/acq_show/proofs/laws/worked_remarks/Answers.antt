use Rattle.std.proofs.Common.{refl}
use Rattle.acq_show.specs.Remarks.{element_words}
use Rattle.acq_show.proofs.OnLiterals.{shown_on_literals}
use Rattle.acq_show.proofs.laws.worked_remarks.Goals as goal

pub returns : goal.returns
unfolding shown_on_literals element_words
returns c = record { missing = refl; card = refl; block = refl }
