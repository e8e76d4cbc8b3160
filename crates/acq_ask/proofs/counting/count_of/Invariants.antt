use Rattle.std.proofs.Common.{◌≡◌, ◌≤◌, take}
use Rattle.std.specs.List.{count_by}
use Rattle.acq_ask.specs.Codes.{is_same}
use Rattle.acq_ask.proofs.counting.count_of.Given as goal

-- of the codes so far so many are this one
abbrev pub invariant-loop-other : goal.invariant-loop-other
invariant-loop-other l =
    (l.count ≡ count_by (is_same l.code) (take l.other-index l.codes))
    × (l.count ≤ l.other-index)
