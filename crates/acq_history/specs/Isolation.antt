-- Isolation: what a party gets depends on its own events and the shared ones alone.
use Rattle.std.specs.Prelude.{◌≡◌, ℕ, not, ◌&&◌, List, [], ◌∷◌, ◌++◌, map, filter, Option, Some}
use Rattle.std.specs.Prelude.{None, is_some, if◌then◌else◌}
use Rattle.acq_core.specs.declared.event.Event.{Event}
use Rattle.acq_message.specs.Elements.{key_of}
use Rattle.acq_message.specs.declared.request_message.RequestMessage.{RequestMessage}
use Rattle.acq_core.specs.Known.{Prior}
use Rattle.acq_core.specs.Decision.{is_open_at}
use Rattle.acq_core.specs.Tables.{Opening, new_tables, outputs, prior_of, requests_of, postings_of}
use Rattle.acq_history.specs.Entries.{Entry, request_of, is_past_merchant}
use Rattle.acq_history.specs.History.{Found, recorded, newest, aged, prior, postings}
use Rattle.acq_history.specs.PartyHistory.{Party, own, history_of, book_after, outputs_alone}
use Rattle.acq_history.specs.PartyHistory.{outputs_at}

-- From any past on, what a party gets of further events is what it gets where its own events, the
-- past ones and then the further ones, come alone.
abbrev pub IsIsolated : Party → Type 0
IsIsolated party =
    (opening : Opening) (past further : List Event) →
    outputs_at party further (outputs (book_after opening past) further)
    ≡ outputs_alone opening party (history_of opening party past) (own party further)

-- In two runs that agree in a party's own events and the shared ones it gets the same.
abbrev pub IsSameInTwoRuns : Party → Type 0
IsSameInTwoRuns party =
    (opening : Opening) (es fs : List Event) → own party es ≡ own party fs →
    outputs_at party es (outputs (new_tables opening) es)
    ≡ outputs_at party fs (outputs (new_tables opening) fs)

-- A merchant's rows of postings are the postings of its own history.
abbrev pub PostsAlone : List ℕ → Type 0
PostsAlone m =
    (opening : Opening) (es : List Event) →
    postings_of m (book_after opening es).postings ≡ postings (history_of opening (Some m) es)

-- ---- open holds

-- a request's newest entry, where its key is new
abbrev pub recording_first : Entry → List Entry → Option RequestMessage → List Found
recording_first e h None = []
recording_first e h (Some r) =
    if is_past_merchant e.outcome && not (is_some (recorded (key_of r.service r.message) h))
    then newest r e h ∷ [] else []

-- all recorded requests of a history, the oldest first
abbrev pub all_recorded : List Entry → List Found
all_recorded [] = []
all_recorded (e ∷ h) = map (aged e) (all_recorded h) ++ recording_first e h (request_of e.arrival)

-- those that are open holds at a moment
abbrev pub open_at : ℕ → List Prior → List Prior
open_at moment priors = filter (λ p. is_open_at moment p.hold_end) priors

-- A merchant's rows of requests that are open at a moment are those of its own history, in order.
abbrev pub HoldsAlone : List ℕ → Type 0
HoldsAlone m =
    (opening : Opening) (moment : ℕ) (es : List Event) →
    open_at moment (map prior_of (requests_of m (book_after opening es).requests))
    ≡ open_at moment (map prior (all_recorded (history_of opening (Some m) es)))
