-- The events by which one list of ranges becomes another (own profile). Each range that is new is
-- added, and right before it the ranges are dropped that go and don't lie behind it. So no range
-- that is added overlaps one that goes, and what makes room for it stands next to it.
use Rattle.std.specs.Prelude.{◌==◌, Bool, false, not, ◌&&◌, List, [], ◌∷◌, ◌++◌, map, filter}
use Rattle.std.specs.Prelude.{Option, Some, None}
use Rattle.std.specs.Str.{bytes_eq}
use Rattle.card_no.specs.declared.range.Range.{Range}
use Rattle.card_no.specs.Ranges.{is_before, range_of_prefix}
use Rattle.acq_core.specs.declared.event.Event.{Event}
use Rattle.acq_core.specs.declared.event.Event.TheVariants.{AddRange, DropRange}
use Rattle.acq_core.specs.Tables.{Tables}
use Rattle.acq_book.specs.Lookups.{ranges_at}

-- two ranges have the same ends, issuer and hold days
abbrev pub same_range : Range → Range → Bool
same_range a b =
    (a.low == b.low) && (a.high == b.high) && bytes_eq a.issuer b.issuer
    && (a.hold_days == b.hold_days)

-- what was found for a range is the same
abbrev pub is_same : Range → Option Range → Bool
is_same r None = false
is_same r (Some other) = same_range r other

-- a range is among these just so: the one that holds its lower end is the same
abbrev pub is_among : List Range → Range → Bool
is_among ranges r = is_same r (range_of_prefix ranges r.low)

-- those of these rows that aren't among the ranges
abbrev pub others : List Range → List Range → List Range
others ranges rows = filter (λ r. not (is_among ranges r)) rows

abbrev pub drop_of : Range → Event
drop_of r = DropRange r.low r.high

-- each range that comes is added, right behind the drops of those that go and don't lie behind it;
-- at the end the others that go are dropped
abbrev pub in_turn : (gone come : List Range) → List Event
in_turn gone [] = map drop_of gone
in_turn gone (r ∷ come) =
    map drop_of (filter (λ s. not (is_before r s)) gone)
    ++ AddRange r ∷ in_turn (filter (is_before r) gone) come

-- a range of the old list goes that isn't in the new one; one of the new list comes that isn't in
-- the old one
abbrev pub changes_between : (old new : List Range) → List Event
changes_between old new = in_turn (others new old) (others old new)

-- the same of a book's ranges and a list
abbrev pub changes_to : List Range → Tables → List Event
changes_to list t = changes_between (ranges_at t) list
