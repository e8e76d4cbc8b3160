-- Ranges stay apart.
use Rattle.std.specs.Prelude.{◌≡◌, true, List}
use Rattle.card_no.specs.Ranges.{are_ranges}
use Rattle.acq_core.specs.declared.event.Event.{Event}
use Rattle.acq_core.specs.Tables.{Opening, Tables, new_tables, tables_after}

-- each range is valid, they are in order of low, and no two overlap
abbrev pub HasRangesApart : Tables → Type 0
HasRangesApart t = are_ranges t.ranges ≡ true

-- Whatever comes, ranges stay apart.
abbrev pub RangesStayApart : Type 0
RangesStayApart =
    (opening : Opening) (es : List Event) → HasRangesApart (tables_after (new_tables opening) es)
