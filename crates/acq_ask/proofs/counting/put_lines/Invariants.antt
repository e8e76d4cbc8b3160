use Rattle.std.proofs.Common.{◌≡◌, ◌++◌, take}
use Rattle.std.specs.List.{flat_map}
use Rattle.acq_ask.specs.Codes.{count_line}
use Rattle.acq_ask.proofs.counting.put_lines.Given as goal

-- the lines of the codes so far stand there
abbrev pub invariant-loop-code : goal.invariant-loop-code
invariant-loop-code l =
    l.text.items
    ≡ l.fn.text.items ++ flat_map (count_line l.codes) (take l.code-index l.found)
