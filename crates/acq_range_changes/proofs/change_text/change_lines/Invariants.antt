-- the lines so far
use Rattle.std.proofs.Common.{◌≡◌, take}
use Rattle.std.specs.List.{flat_map}
use Rattle.acq_range_changes.specs.Lines.{change_line}
use Rattle.acq_range_changes.proofs.change_text.change_lines.Given as goal

abbrev pub invariant-loop-event : goal.invariant-loop-event
invariant-loop-event l = l.text.items ≡ flat_map change_line (take l.event-index l.events)
