-- What an answer unfolds to compute this crate's definitions on literals.
use Rattle.std.specs.Prelude.{⊤}
use Rattle.acq_show.proofs.OnLiterals.{shown_on_literals}
use Rattle.acq_make.specs.Contents.{content_said, unshown}
use Rattle.acq_make.specs.Lines.{line_kind, said_text}
use Rattle.acq_make.specs.Said.{begun, ended, in_front, messages_said, said_behind, step, with_line}

unfoldable pub said_on_literals : ⊤
unfolding shown_on_literals content_said unshown line_kind said_text begun ended in_front messages_said said_behind step with_line
said_on_literals = tt
