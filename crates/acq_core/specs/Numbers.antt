-- Numbers with bounds (own profile).
use Rattle.std.specs.Prelude.{ℕ, ◌+◌, ◌*◌, nat_le, Bool, ◌&&◌}
use Rattle.day_totals.specs.Day.{last_day}

-- the most messages of a merchant that a day may admit
abbrev pub greatest_limit : ℕ
greatest_limit = 999999

-- how many messages of a merchant a day admits
abbrev pub is_limit : ℕ → Bool
is_limit n = nat_le 1 n && nat_le n greatest_limit

-- the reference of a merchant's first admitted request
abbrev pub is_first_reference : ℕ → Bool
is_first_reference n = nat_le 1 n && nat_le n 900000000000

-- how many requests of a merchant were admitted: on each day no more than may be
abbrev pub is_admitted_count : ℕ → Bool
is_admitted_count n = nat_le n ((last_day + 1) * greatest_limit)

-- how many messages of a merchant count against the limit of a day
abbrev pub is_used_count : ℕ → Bool
is_used_count n = nat_le n greatest_limit
