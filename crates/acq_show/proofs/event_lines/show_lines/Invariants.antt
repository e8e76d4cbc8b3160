use Rattle.std.proofs.Common.{◌≡◌, ◌++◌, length}
use Rattle.acq_show.specs.Lines.{lines_shown}
use Rattle.acq_show.proofs.event_lines.show_lines.Given as goal

-- what is shown so far, and of the rest, is all that is shown
abbrev pub invariant-loop-rest : goal.invariant-loop-rest
invariant-loop-rest l = l.text.items ++ lines_shown l.rest ≡ lines_shown l.lines

abbrev pub decreases-loop-rest : goal.decreases-loop-rest
decreases-loop-rest l = length l.rest
