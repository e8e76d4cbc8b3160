-- Runs by prefixes of six digits and by eight: what a book of earlier years becomes when its ranges
-- are widened, and what past it then has.
use Rattle.std.specs.Prelude.{◌≡◌, ◌+◌, ◌*◌, Bool, true, false, ◌&&◌, not, List, [], ◌∷◌}
use Rattle.std.specs.Prelude.{if◌then◌else◌}
use Rattle.std.specs.List.{list_all}
use Rattle.card_no.specs.Prefix.{six_digits, eight_digits}
use Rattle.card_no.specs.Ranges.{is_valid_range_under}
use Rattle.card_no.specs.Widening.{widened}
use Rattle.acq_core.specs.declared.event.Event.{Event}
use Rattle.acq_core.specs.declared.event.Event.TheVariants as event
use Rattle.acq_core.specs.declared.output.Output.{Output}
use Rattle.acq_core.specs.declared.output.Output.TheVariants as output
use Rattle.acq_core.specs.Tables.{Tables, outputs_under, tables_after_under}
use Rattle.acq_core.specs.Pasts.{HasPastUnder, HasPast}
use Rattle.acq_core.specs.Widening.{widened_tables}

-- an event about a range speaks of the widened one, all others are as they were
abbrev pub widened_event : Event → Event
widened_event (event.AddRange range) = event.AddRange (widened range)
widened_event (event.DropRange low high) = event.DropRange (low * 100) (high * 100 + 99)
widened_event e = e

abbrev pub is_of_a_range : Event → Bool
is_of_a_range (event.AddRange range) = true
is_of_a_range (event.DropRange low high) = true
is_of_a_range e = false

abbrev pub is_done : Output → Bool
is_done output.Done = true
is_done o = false

-- an event about a range that was refused
abbrev pub is_refused : Event → Output → Bool
is_refused e o = is_of_a_range e && not (is_done o)

-- events, and what the host said to each: the refused ones about ranges are left out, and of the
-- accepted ones the ranges are widened
abbrev pub widened_events : List Event → List Output → List Event
widened_events [] said = []
widened_events (e ∷ es) [] = []
widened_events (e ∷ es) (o ∷ said) =
    if is_refused e o then widened_events es said else widened_event e ∷ widened_events es said

-- what the host said to those that are left
abbrev pub said_to_them : List Event → List Output → List Output
said_to_them [] said = []
said_to_them (e ∷ es) [] = []
said_to_them (e ∷ es) (o ∷ said) =
    if is_refused e o then said_to_them es said else o ∷ said_to_them es said

-- Of any tables and events: the tables by six digits after them, widened, are those by eight digits
-- after the widened events of the widened tables, and to these events the host says the same.
abbrev pub WidensRuns : Type 0
WidensRuns =
    (t : Tables) (es : List Event) →
    let said = outputs_under six_digits t es in
    (tables_after_under eight_digits (widened_tables t) (widened_events es said)
    ≡ widened_tables (tables_after_under six_digits t es))
    × (outputs_under eight_digits (widened_tables t) (widened_events es said)
    ≡ said_to_them es said)

-- So what events by six digits led to has, widened, a past by eight digits, which are in force.
abbrev pub WidensPasts : Type 0
WidensPasts =
    (t : Tables) → HasPastUnder six_digits t → HasPastUnder eight_digits (widened_tables t)

-- The ranges of such tables are all valid by six digits.
abbrev pub SixDigitRanges : Type 0
SixDigitRanges =
    (t : Tables) → HasPastUnder six_digits t
    → list_all (is_valid_range_under six_digits) t.ranges ≡ true
