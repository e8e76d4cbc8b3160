-- Moments, in seconds since 1970-01-01 00:00:00 UTC (own profile).
use Rattle.std.specs.Prelude.{ℕ, nat_le, Bool, ◌&&◌}

-- from 2000-01-01 00:00:00 to 2099-12-31 23:59:59
abbrev pub is_moment : ℕ → Bool
is_moment seconds = nat_le 946684800 seconds && nat_le seconds 4102444799
