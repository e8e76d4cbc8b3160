use Rattle.std.proofs.Common.{◌≡◌, ◌↔◌, length}
use Rattle.std.specs.List.{AllByRecursion}
use Rattle.acq_sql_checking.proofs.alike.are_alike.Given as goal

-- the whole lists are alike exactly where what is left of them is
abbrev pub invariant-loop-first : goal.invariant-loop-first
invariant-loop-first g l =
    ((l.first ≡ l.second) × AllByRecursion g.T.Alike.is_plain l.first)
    ↔ ((l.fn.first ≡ l.fn.second) × AllByRecursion g.T.Alike.is_plain l.fn.first)

abbrev pub decreases-loop-first : goal.decreases-loop-first
decreases-loop-first g l = length l.first
