use Rattle.std.proofs.Common.{◌≡◌, ◌++◌, take}
use Rattle.std.specs.List.{flat_map}
use Rattle.acq_explain.specs.Differing.{difference_at}
use Rattle.acq_explain.proofs.differing.put_each.Given as goal

abbrev pub invariant-loop-number : goal.invariant-loop-number
invariant-loop-number l =
    l.text.items
    ≡ l.fn.text.items ++ flat_map (difference_at l.own l.kept) (take l.number-index l.numbers)
