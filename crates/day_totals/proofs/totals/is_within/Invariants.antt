use Rattle.std.proofs.Common.{◌≡◌, ◌+◌, sum, take}
use Rattle.day_totals.proofs.totals.is_within.Given as goal

abbrev pub invariant-loop-number : goal.invariant-loop-number
invariant-loop-number l = l.left + sum (take l.number-index l.numbers) ≡ l.limit
