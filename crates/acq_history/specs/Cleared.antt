-- What was told is what clears: of each reply that said 00 to what moves money one posting, and no
-- other.
use Rattle.std.specs.Prelude.{◌≡◌, ℕ, List, [], ◌∷◌, Option, Some, None, option_map}
use Rattle.std.specs.Prelude.{option_and_then, if◌then◌else◌}
use Rattle.acq_message.specs.declared.service.Service.{Service}
use Rattle.acq_message.specs.declared.service.Service.TheVariants.{Financial, Completion}
use Rattle.acq_message.specs.declared.service.Service.TheVariants.{Reversal, ReversalAdvice}
use Rattle.acq_message.specs.declared.request_message.RequestMessage.{RequestMessage}
use Rattle.acq_message.specs.Elements.{reference_in, original_key}
use Rattle.acq_core.specs.declared.event.Event.{Event}
use Rattle.acq_core.specs.declared.posting.Posting.{Posting}
use Rattle.acq_core.specs.declared.arrival.Arrival.{Arrival}
use Rattle.acq_core.specs.declared.arrival.Arrival.TheVariants.{Requested, Answered}
use Rattle.acq_core.specs.Events.{AreEvents}
use Rattle.acq_core.specs.Tables.{Opening, with_next_posting, postings_of}
use Rattle.acq_history.specs.Entries.{Entry}
use Rattle.acq_history.specs.History.{Found, newest, referred, next_reference}
use Rattle.acq_history.specs.PartyHistory.{history_of, book_after}
use Rattle.acq_history.specs.PostedRows.{sale_posting, completion_posting, reversing_posting}
use Rattle.acq_history.specs.PostedRows.{posted_about}
use Rattle.acq_history.specs.Told.{is_told_00}

-- ---- what moves where 00 is told

-- the amount of a sale or a return, under its reference; a hold moves none
abbrev pub sale_moved : Service → ℕ → Found → Option Posting
sale_moved Financial reference f = Some (sale_posting reference f)
sale_moved service reference f = None

-- what a completion takes of the hold that it names
abbrev pub completion_moved : Entry → List Entry → RequestMessage → Option Posting
completion_moved e h r =
    option_and_then (λ n. option_map (completion_posting e.day r n) (referred n h))
    (reference_in r.message)

-- what a reversal takes back of what was posted about its original
abbrev pub reversal_moved : Entry → List Entry → RequestMessage → Option Posting
reversal_moved e h r =
    option_map (reversing_posting e.day r)
    (option_and_then (λ key. posted_about key h) (original_key r.message))

-- a request, by its service
abbrev pub request_moved : Service → Entry → List Entry → RequestMessage → Option Posting
request_moved Financial e h r = sale_moved Financial (next_reference h) (newest r e h)
request_moved Completion e h r = completion_moved e h r
request_moved Reversal e h r = reversal_moved e h r
request_moved ReversalAdvice e h r = reversal_moved e h r
request_moved service e h r = None

-- what came: a request, or an answer to one
abbrev pub moved : Arrival → Entry → List Entry → Option Posting
moved (Requested r) e h = request_moved r.service e h r
moved (Answered moment merchant reference verdict) e h =
    option_and_then (λ f. sale_moved f.request.service reference f) (referred reference h)
moved arrival e h = None

-- ---- what clears

-- what moves by an entry, where the reply to it says 00
abbrev pub told_posting : Entry → List Entry → Option Posting
told_posting e h = if is_told_00 e.outcome then moved e.arrival e h else None

-- all that moves, in the order in which it was told, each with its number of the day
abbrev pub told_postings : List Entry → List (ℕ × Posting)
told_postings [] = []
told_postings (e ∷ h) = with_next_posting (told_postings h) (told_posting e h)

-- A merchant's postings are what its terminals were told.
abbrev pub ClearsAsTold : List ℕ → Type 0
ClearsAsTold m =
    (opening : Opening) (es : List Event) → AreEvents es →
    postings_of m (book_after opening es).postings
    ≡ told_postings (history_of opening (Some m) es)
