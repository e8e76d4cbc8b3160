-- Ranges that the worked rows are computed on.
use Rattle.std.specs.Prelude.{codes, List, [], ◌∷◌}
use Rattle.card_no.specs.declared.range.Range.{Range}

abbrev pub first_range : Range
first_range = record { low = 40000000; high = 49999999; issuer = codes "12345"; hold_days = 7 }

abbrev pub second_range : Range
second_range = record { low = 50000000; high = 59999999; issuer = codes "67890"; hold_days = 1 }

abbrev pub two_ranges : List Range
two_ranges = first_range ∷ second_range ∷ []

-- the same by prefixes of six digits
abbrev pub first_of_six : Range
first_of_six = record { low = 400000; high = 499999; issuer = codes "12345"; hold_days = 7 }

abbrev pub second_of_six : Range
second_of_six = record { low = 500000; high = 599999; issuer = codes "67890"; hold_days = 1 }

abbrev pub two_of_six : List Range
two_of_six = first_of_six ∷ second_of_six ∷ []

-- two that no prefix of six digits tells apart
abbrev pub lower_half : Range
lower_half = record { low = 45000000; high = 45000049; issuer = codes "12345"; hold_days = 7 }

abbrev pub upper_half : Range
upper_half = record { low = 45000050; high = 45000099; issuer = codes "67890"; hold_days = 1 }
