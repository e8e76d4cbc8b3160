use Rattle.std.proofs.Common.{refl}
use Rattle.acq_show.specs.Lines.{lines_shown}
use Rattle.acq_show.proofs.OnLiterals.{shown_on_literals}
use Rattle.acq_show.proofs.laws.worked_lines.Goals as goal

pub returns : goal.returns
unfolding shown_on_literals lines_shown
returns c = record { reply = refl; frame = refl; no_digits = refl; others = refl; unknown = refl; returns = refl }
