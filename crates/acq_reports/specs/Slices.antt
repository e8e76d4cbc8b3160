-- Rows that are gone over slice by slice.
use Rattle.std.specs.Prelude.{ℕ, nat_lt, Bool, true, Option, Some, None}

-- a walk goes on to its end, if it has one
abbrev pub goes_on : Option ℕ → ℕ → Bool
goes_on None rows = true
goes_on (Some end) rows = nat_lt rows end

-- a visitor of whom nothing is said
abbrev pub Whatever : {V Row : Type 0} → V → Row → Bool → V → Type 0
Whatever old row more new = Unit {0}
