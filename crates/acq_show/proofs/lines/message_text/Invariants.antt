use Rattle.std.proofs.Common.{◌≡◌, ◌++◌}
use Rattle.std.specs.Prelude.{flat_map}
use Rattle.acq_show.specs.Shown.{type_line, element_line}
use Rattle.acq_show.proofs.ElementsInTurn.{below}
use Rattle.acq_show.proofs.lines.message_text.Given as goal

abbrev pub invariant-loop-number : goal.invariant-loop-number
invariant-loop-number l =
    l.text.items ≡ type_line l.message.kind ++ flat_map element_line
    (below l.number l.message.elements)
