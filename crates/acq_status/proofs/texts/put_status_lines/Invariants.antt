use Rattle.std.proofs.Common.{◌≡◌, ◌++◌, take}
use Rattle.std.specs.List.{flat_map}
use Rattle.acq_status.specs.Texts.{status_line}
use Rattle.acq_status.proofs.texts.put_status_lines.Given as goal

abbrev pub invariant-loop-reading : goal.invariant-loop-reading
invariant-loop-reading l =
    l.text.items ≡ l.fn.text.items ++ flat_map status_line (take l.reading-index l.readings)
