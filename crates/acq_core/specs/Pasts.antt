-- The tables of a book that began new, and that events alone have changed.
use Rattle.std.specs.Prelude.{◌≡◌, List}
use Rattle.card_no.specs.Prefix.{PrefixProfile, in_force}
use Rattle.acq_core.specs.declared.event.Event.{Event}
use Rattle.acq_core.specs.Events.{AreEvents, IsOpening}
use Rattle.acq_core.specs.Tables.{Opening, Tables, new_tables, tables_after_under}

-- a book that began so has these tables after some events
pub record IsBookUnder (profile : PrefixProfile) (opening : Opening) (t : Tables) : Type 0 where
  pub opens : IsOpening opening
  pub events : List Event
  pub are_events : AreEvents events
  pub after : t ≡ tables_after_under profile (new_tables opening) events

-- some book began so, and these are its tables after some events
abbrev pub HasPastUnder : PrefixProfile → Tables → Type 0
HasPastUnder profile t = (opening : Opening) × IsBookUnder profile opening t

abbrev pub IsBook : Opening → Tables → Type 0
IsBook = IsBookUnder in_force

abbrev pub HasPast : Tables → Type 0
HasPast = HasPastUnder in_force
