use Rattle.std.proofs.Common.{◌≡◌, ◌++◌, length}
use Rattle.acq_json.specs.Lines.{json_lines}
use Rattle.acq_json.proofs.event_lines.json_of_lines.Given as goal

-- what is written so far, and of the rest, is all that is written
abbrev pub invariant-loop-rest : goal.invariant-loop-rest
invariant-loop-rest l = l.text.items ++ json_lines l.form l.rest ≡ json_lines l.form l.lines

abbrev pub decreases-loop-rest : goal.decreases-loop-rest
decreases-loop-rest l = length l.rest
