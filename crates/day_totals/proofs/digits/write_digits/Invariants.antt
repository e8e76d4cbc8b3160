use Rattle.std.proofs.Common.{◌≡◌, length, drop, ◌++◌}
use Rattle.day_totals.specs.Digits.{zero_padded}
use Rattle.day_totals.proofs.digits.write_digits.Given as goal

-- the digits that are still to be written come before those that are
abbrev pub invariant-loop-place : goal.invariant-loop-place
invariant-loop-place l = zero_padded l.place l.number ++ drop l.place l.text
    ≡ zero_padded (length l.fn.text) l.fn.number
