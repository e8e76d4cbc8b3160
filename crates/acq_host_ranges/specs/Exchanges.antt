-- What is said between a host and who makes a list its ranges.
use Rattle.std.specs.Prelude.{◌≡◌, ℕ, false, List, [], ◌∷◌, ◌++◌, codes, Ok, flat_map}
use Rattle.card_no.specs.declared.range.Range.{Range}
use Rattle.card_no.specs.RangeFiles.{ranges_of_text}
use Rattle.acq_core.specs.declared.event.Event.{Event}
use Rattle.acq_control.specs.Telling.{Talk, Tells}
use Rattle.acq_directory.specs.Listings.{header_of}
use Rattle.acq_directory.specs.declared.listing.Listing.TheVariants.{Ranges}
use Rattle.acq_range_changes.specs.Changes.{changes_between}
use Rattle.acq_range_changes.specs.Lines.{change_line}

-- what went to a host so far, and what came from it
pub record Streams : Type 0 where
  pub sent : List ℕ
  pub came : List ℕ

-- the same behind a talk
abbrev pub behind : Streams → Talk → Streams
behind streams talk =
    record { sent = streams.sent ++ talk.sent; came = streams.came ++ talk.came }

-- the line was told, its answer came, and it was no fault's line
abbrev pub IsSaid : (line : List ℕ) → Talk → Type 0
IsSaid line talk = Tells line talk (Ok false)

-- a listing of ranges: the header, and the records of these ranges
abbrev pub ListsRanges : List ℕ → List Range → Type 0
ListsRanges text ranges =
    (records : List ℕ) × (text ≡ header_of Ranges ++ records)
    × (ranges_of_text records ≡ Ok ranges)

-- the host was asked for its ranges, and these are what it said
abbrev pub AsksRanges : Talk → List Range → Type 0
AsksRanges talk ranges =
    IsSaid (codes "list,ranges\n") talk × ListsRanges talk.shown ranges

-- an event was told, and the answer is `done`
abbrev pub IsDone : Event → Talk → Type 0
IsDone event talk = IsSaid (change_line event) talk × (talk.shown ≡ codes "done\n")

-- these events were told, each once the one before was done, and all were done
abbrev pub AreDone : List Event → (before after : Streams) → Type 0
AreDone [] before after = after ≡ before
AreDone (event ∷ events) before after =
    (talk : Talk) × IsDone event talk × AreDone events (behind before talk) after

-- the lines of events
abbrev pub lines_of : List Event → List ℕ
lines_of events = flat_map change_line events

-- The host was asked for its ranges, and told the events by which they become the list; each was
-- done, and their lines were written.
abbrev pub SetsRanges : List Range → (before after : Streams) → (written : List ℕ) → Type 0
SetsRanges list before after written =
    (talk : Talk) × (ranges : List Range) × AsksRanges talk ranges
    × AreDone (changes_between ranges list) (behind before talk) after
    × (written ≡ lines_of (changes_between ranges list))

-- The host was asked for its ranges, and the lines of these events were written; nothing else was
-- told.
abbrev pub WritesChanges : List Range → (before after : Streams) → (written : List ℕ) → Type 0
WritesChanges list before after written =
    (talk : Talk) × (ranges : List Range) × AsksRanges talk ranges
    × (after ≡ behind before talk) × (written ≡ lines_of (changes_between ranges list))
