-- A book with three ranges, and lists that it is to become.
use Rattle.std.specs.Prelude.{List, [], ◌∷◌, codes}
use Rattle.card_no.specs.declared.range.Range.{Range}
use Rattle.card_no.specs.Worked.{first_range, second_range}
use Rattle.acq_core.specs.Tables.{Tables}
use Rattle.acq_reports.specs.Worked.{worked_tables}

abbrev pub third_range : Range
third_range = record { low = 60000000; high = 69999999; issuer = codes "012345"; hold_days = 31 }

abbrev pub held_longer : Range
held_longer = record second_range { hold_days = 10 }

abbrev pub new_range : Range
new_range = record { low = 1000; high = 1999; issuer = codes "012345"; hold_days = 2 }

abbrev pub three_tables : Tables
three_tables =
    record worked_tables { ranges = first_range ∷ second_range ∷ third_range ∷ [] }

-- it keeps the first, changes the hold days of the second, drops the third and adds one below them
-- all
abbrev pub worked_list : List Range
worked_list = new_range ∷ first_range ∷ held_longer ∷ []

-- the second alone, in two halves
abbrev pub lower_half : Range
lower_half = record second_range { high = 54999999 }

abbrev pub upper_half : Range
upper_half = record second_range { low = 55000000 }

abbrev pub split_list : List Range
split_list = lower_half ∷ upper_half ∷ []
