-- Numbers with bounds (own profile).
use Rattle.std.specs.Prelude.{ℕ, nat_le, ◌==◌, Bool, false, ◌&&◌, Option, Some, None}

-- an amount in minor units, as element 4 may have it: twelve digits
abbrev pub is_amount : ℕ → Bool
is_amount n = nat_le n 999999999999

-- an amount that is accepted
abbrev pub is_accepted_amount : ℕ → Bool
is_accepted_amount n = nat_le 1 n && nat_le n 9999999999

-- a merchant's reference, as element 37 may have it: twelve digits
abbrev pub is_reference : ℕ → Bool
is_reference n = nat_le n 999999999999

-- a number is there, and is this one
abbrev pub is_number : ℕ → Option ℕ → Bool
is_number n None = false
is_number n (Some m) = m == n
