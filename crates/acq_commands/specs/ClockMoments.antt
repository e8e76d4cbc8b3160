-- Moments by the clock of a machine.
use Rattle.std.specs.Prelude.{ℕ, nat_lt, if◌then◌else◌}

-- the moment that is nearest to so many seconds since 1970-01-01 00:00:00
abbrev pub nearest_moment : ℕ → ℕ
nearest_moment seconds =
    if nat_lt seconds 946684800 then 946684800
    else if nat_lt 4102444799 seconds then 4102444799
    else seconds
