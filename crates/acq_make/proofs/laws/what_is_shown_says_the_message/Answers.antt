use Rattle.acq_make.proofs.ShownSaid.{shown_is_said, written_is_said}
use Rattle.acq_make.proofs.laws.what_is_shown_says_the_message.Goals as goal

pub returns : goal.returns
returns c = record { whole = written_is_said; shown = shown_is_said }
