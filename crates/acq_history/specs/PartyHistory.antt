-- The history of one party's own events, each with its outcome on the history so far.
use Rattle.std.specs.Prelude.{ℕ, Bool, false, not, ◌&&◌, ◌||◌, List, [], ◌∷◌, filter, Option, Some}
use Rattle.std.specs.Prelude.{None, is_none, if◌then◌else◌}
use Rattle.std.specs.Str.{bytes_eq}
use Rattle.acq_core.specs.declared.event.Event.{Event}
use Rattle.acq_core.specs.declared.output.Output.{Output}
use Rattle.acq_core.specs.declared.arrival.Arrival.{Arrival}
use Rattle.acq_core.specs.Arrivals.{arrival_of, merchant_named, is_shared}
use Rattle.acq_core.specs.Known.{Known, wanted_by, known_for}
use Rattle.acq_core.specs.Outcome.{outcome, output_of}
use Rattle.acq_core.specs.Tables.{Opening, Tables, new_tables, tables_after}
use Rattle.acq_history.specs.Entries.{Entry}
use Rattle.acq_history.specs.History.{day_after, ranges_after, facts_of}

-- ---- parties and their events

-- a merchant, or nobody
abbrev pub Party : Type 0
Party = Option (List ℕ)

-- a merchant is named, and is this one
abbrev pub names : Option (List ℕ) → List ℕ → Bool
names None m = false
names (Some named) m = bytes_eq named m

-- whether what came is the party's: it names the merchant, or it names none and isn't shared
abbrev pub is_of : Party → Arrival → Bool
is_of None a = is_none (merchant_named a) && not (is_shared a)
is_of (Some m) a = names (merchant_named a) m

-- the party's own events and the shared ones, in order
abbrev pub own : Party → List Event → List Event
own party es = filter (λ e. is_of party (arrival_of e) || is_shared (arrival_of e)) es

-- ---- the history of events

-- what a history lets an event know
abbrev pub known_by : Opening → List Entry → Arrival → Known
known_by opening h a =
    known_for (wanted_by (day_after opening.first_day h) a) (facts_of opening h)

-- the entry of what comes next
abbrev pub entry_for : Opening → List Entry → Arrival → Entry
entry_for opening h a =
    record {
      arrival = a;
      day = day_after opening.first_day h;
      ranges = ranges_after h;
      outcome = outcome (known_by opening h a) a;
    }

-- the history after these events
abbrev pub history_after : Opening → List Entry → List Event → List Entry
history_after opening h [] = h
history_after opening h (e ∷ es) = history_after opening (entry_for opening h (arrival_of e) ∷ h) es

-- a party's history of these events, from a new book on
abbrev pub history_of : Opening → Party → List Event → List Entry
history_of opening party es = history_after opening [] (own party es)

-- the tables of a new book after events
abbrev pub book_after : Opening → List Event → Tables
book_after opening es = tables_after (new_tables opening) es

-- ---- what the party gets

-- the output of an entry, if it is the party's, before later ones
abbrev pub with_output : Party → Entry → List Output → List Output
with_output party e later =
    if is_of party e.arrival then output_of (merchant_named e.arrival) e.outcome ∷ later else later

-- what the party gets in a history of these events alone, one after the other
abbrev pub outputs_alone : Opening → Party → List Entry → List Event → List Output
outputs_alone opening party h [] = []
outputs_alone opening party h (e ∷ es) =
    let entry = entry_for opening h (arrival_of e) in
    with_output party entry (outputs_alone opening party (entry ∷ h) es)

-- the outputs at the places of the party's events
abbrev pub outputs_at : Party → List Event → List Output → List Output
outputs_at party [] os = []
outputs_at party (e ∷ es) [] = []
outputs_at party (e ∷ es) (o ∷ os) =
    if is_of party (arrival_of e) then o ∷ outputs_at party es os else outputs_at party es os
