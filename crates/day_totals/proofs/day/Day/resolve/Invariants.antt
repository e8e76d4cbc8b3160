use Rattle.std.proofs.Common.{◌≡◌, ℕ, ◌-◌, ◌<◌, false}
use Rattle.std.specs.Str.{bytes_eq}
use Rattle.day_totals.specs.Day.{mmdd_of}
use Rattle.day_totals.proofs.day.Day.resolve.Given as goal

-- none of the days so far has this month and day
abbrev pub invariant-loop-back : goal.invariant-loop-back
invariant-loop-back l = (k : ℕ) → k < l.back → bytes_eq (mmdd_of (l.number - k)) l.mmdd ≡ false
