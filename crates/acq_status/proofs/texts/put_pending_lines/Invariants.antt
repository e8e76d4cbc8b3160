use Rattle.std.proofs.Common.{◌≡◌, ◌++◌, take}
use Rattle.std.specs.List.{flat_map}
use Rattle.acq_status.specs.Texts.{pending_line}
use Rattle.acq_status.proofs.texts.put_pending_lines.Given as goal

abbrev pub invariant-loop-day : goal.invariant-loop-day
invariant-loop-day l =
    l.text.items ≡ l.fn.text.items ++ flat_map pending_line (take l.day-index l.days)
