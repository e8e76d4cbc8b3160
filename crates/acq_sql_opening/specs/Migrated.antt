-- Books of the earlier version, whose ranges are of six digits.
use Rattle.std.specs.Prelude.{Ok}
use Rattle.sqlite.specs.State.{State}
use Rattle.card_no.specs.Prefix.{six_digits}
use Rattle.acq_core.specs.Pasts.{HasPastUnder}
use Rattle.acq_core.specs.Tables.{Tables}
use Rattle.acq_sql_rows.specs.Rows.{version_of_six_digits}
use Rattle.acq_sql_rows.specs.Standing.{IsAtOf}
use Rattle.acq_sql_checking.specs.Checked.{HasBadVersion, Judges}

-- the connection is at these tables in a book of that version, and events by six digits led to them
pub record IsOfSixDigits (s : State) (t : Tables) : Type 0 where
  pub at : IsAtOf version_of_six_digits s t
  pub past : HasPastUnder six_digits t

-- the version of a book's tables is a number, and where it is that of six digits, events by six
-- digits led to them
pub record IsAsItSays (s : State) : Type 0 where
  pub version : ¬ HasBadVersion s.now
  pub six : Judges {T = Unit {0}} version_of_six_digits s.now (Ok tt)
      → (t : Tables) × IsOfSixDigits s t
