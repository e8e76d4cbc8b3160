-- A list that becomes the ranges of a book.
use Rattle.std.specs.Prelude.{ℕ, List, flat_map}
use Rattle.card_no.specs.declared.range.Range.{Range}
use Rattle.acq_core.specs.declared.event.Event.{Event}
use Rattle.acq_core.specs.Tables.{Tables}
use Rattle.acq_range_changes.specs.Changes.{changes_to}
use Rattle.acq_range_changes.specs.Lines.{change_line}

-- the lines of events
abbrev pub lines_of : List Event → List ℕ
lines_of events = flat_map change_line events

-- those of the events by which a list becomes the ranges of a book
abbrev pub changes_text : List Range → Tables → List ℕ
changes_text list t = lines_of (changes_to list t)
