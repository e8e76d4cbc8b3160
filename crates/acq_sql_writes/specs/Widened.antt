-- What the statements that widen the ranges make of the rows, and when they fail.
use Rattle.std.specs.Prelude.{◌≡◌, ℕ, true, List, None, Result, IfErr, IsTrue}
use Rattle.std.specs.List.{list_all}
use Rattle.sqlite.specs.declared.error.Error.{Error}
use Rattle.sqlite.specs.Effect.{Database}
use Rattle.sqlite.specs.State.{State, HasCleanDisk}
use Rattle.row_lemmas.specs.Excused.{IsExcused}
use Rattle.card_no.specs.Prefix.{PrefixProfile, six_digits, eight_digits}
use Rattle.card_no.specs.Ranges.{is_valid_range_under}
use Rattle.acq_core.specs.Tables.{Tables}
use Rattle.acq_core.specs.Widening.{widened_tables}
use Rattle.acq_sql_rows.specs.Tallies.{Running}
use Rattle.acq_sql_rows.specs.Relation.{HoldsRows, HoldsRowsOf, HoldsTurnedOf}

-- each range is valid by prefixes of so many digits
abbrev pub HasRangesUnder : PrefixProfile → Tables → Type 0
HasRangesUnder profile t = list_all (is_valid_range_under profile) t.ranges ≡ true

-- ---- what each statement makes of the rows, in a book of any version

-- ranges of six digits become those of eight, with -1 - low in place of each low
abbrev pub WidensRanges : Database → Database → Type 0
WidensRanges db next =
    (version : ℕ) (t : Tables) (runs : List Running) → HasRangesUnder six_digits t
    → HoldsRowsOf version db t runs → HoldsTurnedOf version next (widened_tables t) runs

-- each low is put back
abbrev pub TurnsRanges : Database → Database → Type 0
TurnsRanges db next =
    (version : ℕ) (t : Tables) (runs : List Running) → HasRangesUnder eight_digits t
    → HoldsTurnedOf version db t runs → HoldsRowsOf version next t runs

-- the book becomes one of the version in force
abbrev pub SetsVersion : Database → Database → Type 0
SetsVersion db next =
    (version : ℕ) (t : Tables) (runs : List Running)
    → HoldsRowsOf version db t runs → HoldsRows next t runs

-- ---- when one fails

-- where this is so of the database, a statement fails only for memory or since the store failed
abbrev pub IsNeverRefused : {T : Type 0} →
    State → State → Result T Error → (Database → Type 0) → Type 0
IsNeverRefused old new result fits =
    HasCleanDisk new → IsTrue old.in_transaction → IsTrue old.is_open → old.step_limit ≡ None
    → fits old.now → IfErr result (IsExcused old new)

-- it has the rows of some tables with such ranges
abbrev pub HasRangesOf : PrefixProfile → Database → Type 0
HasRangesOf profile db =
    (version : ℕ) × (t : Tables) × (runs : List Running)
    × HasRangesUnder profile t × HoldsRowsOf version db t runs

-- the same, but -1 - low stands in place of each low
abbrev pub HasTurnedRangesOf : PrefixProfile → Database → Type 0
HasTurnedRangesOf profile db =
    (version : ℕ) × (t : Tables) × (runs : List Running)
    × HasRangesUnder profile t × HoldsTurnedOf version db t runs
