-- Tables that the worked listings are computed on: those of the worked reports, with terminals and
-- ranges.
use Rattle.std.specs.Prelude.{[], ◌∷◌, codes}
use Rattle.card_no.specs.declared.range.Range.{Range}
use Rattle.acq_core.specs.Tables.{Tables}
use Rattle.acq_reports.specs.Worked.{first_merchant, second_merchant, worked_tables}

abbrev pub worked_range : Range
worked_range = record { low = 1_000; high = 49_999_999; issuer = codes "012345"; hold_days = 7 }

abbrev pub listed_tables : Tables
listed_tables =
    record worked_tables {
      terminals =
          record { merchant = second_merchant; id = codes "TERM0002" }
          ∷ record { merchant = first_merchant; id = codes "TERM0002" }
          ∷ record { merchant = first_merchant; id = codes "TERM0001" } ∷ [];
      ranges = worked_range ∷ [];
    }
