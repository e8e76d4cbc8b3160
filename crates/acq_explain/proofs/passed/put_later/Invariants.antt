use Rattle.std.proofs.Common.{◌≡◌, ◌++◌, take}
use Rattle.std.specs.List.{flat_map}
use Rattle.acq_explain.specs.Checks.{later_word}
use Rattle.acq_explain.proofs.passed.put_later.Given as goal

abbrev pub invariant-loop-check : goal.invariant-loop-check
invariant-loop-check l =
    l.text.items ≡ l.fn.text.items ++ flat_map later_word (take l.check-index l.checks)
