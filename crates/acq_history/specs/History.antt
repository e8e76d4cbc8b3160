-- One merchant's history, and what it says. There are no rows, no status and no running sum. The
-- newest entry stands first.
use Rattle.std.specs.Prelude.{ℕ, ◌+◌, ◌==◌, Bool, true, false, not, ◌&&◌, ◌||◌, List, [], ◌∷◌, find}
use Rattle.std.specs.Prelude.{Option, Some, None, option_map, option_and_then, is_some, is_none}
use Rattle.std.specs.Prelude.{unwrap_or, if◌then◌else◌}
use Rattle.std.specs.List.{list_any}
use Rattle.std.specs.Option.{option_or}
use Rattle.std.specs.Str.{bytes_eq}
use Rattle.iso_codec.specs.Message.{IsoMessage, content_of}
use Rattle.card_no.specs.declared.range.Range.{Range}
use Rattle.card_no.specs.CardNumbers.{prefix_of}
use Rattle.card_no.specs.Ranges.{range_of_prefix, overlapped_by, with_range, without_range}
use Rattle.day_totals.specs.declared.leg.Leg.{Leg}
use Rattle.day_totals.specs.declared.leg.Leg.TheVariants.{Debit}
use Rattle.acq_message.specs.declared.service.Service.{Service}
use Rattle.acq_message.specs.declared.service.Service.TheVariants.{Authorization, Financial}
use Rattle.acq_message.specs.declared.service.Service.TheVariants.{Completion, Reversal}
use Rattle.acq_message.specs.declared.service.Service.TheVariants.{ReversalAdvice}
use Rattle.acq_message.specs.declared.request_key.RequestKey.{RequestKey}
use Rattle.acq_core.specs.declared.merchant.Merchant.{Merchant}
use Rattle.acq_core.specs.declared.posting.Posting.{Posting}
use Rattle.acq_message.specs.Elements.{or_empty, amount_in, reference_in, key_of, same_key}
use Rattle.acq_message.specs.Elements.{essence_of, original_key}
use Rattle.acq_message.specs.Cards.{card_of}
use Rattle.acq_core.specs.declared.arrival.Arrival.{Arrival}
use Rattle.acq_message.specs.declared.request_message.RequestMessage.{RequestMessage}
use Rattle.acq_core.specs.declared.arrival.Arrival.TheVariants.{Requested, Answered, RangeAdded}
use Rattle.acq_core.specs.declared.arrival.Arrival.TheVariants.{RangeDropped}
use Rattle.acq_core.specs.declared.reply_state.ReplyState.{ReplyState}
use Rattle.acq_core.specs.declared.reply_state.ReplyState.TheVariants.{Kept, Awaited, Late}
use Rattle.acq_core.specs.Known.{Prior, Facts}
use Rattle.acq_message.specs.Elements.{sale_leg}
use Rattle.acq_message.specs.Reply.{draft_reply}
use Rattle.acq_core.specs.Changes.{end_of_hold, answer_posting, completion_posting}
use Rattle.acq_core.specs.Changes.{reversal_posting, is_lowered}
use Rattle.card_no.specs.Ranges.{between}
use Rattle.acq_core.specs.Tables.{Opening, with_next_posting, totals_on}
use Rattle.acq_history.specs.Entries.{Entry, reply_in, is_asked, is_performed, is_past_merchant}
use Rattle.acq_soundness.specs.Requests.{is_admissible}
use Rattle.acq_history.specs.Entries.{request_of, accepts, is_acceptable}
use Rattle.acq_history.specs.Entries.{is_acceptance, is_completing, is_reversing, is_answer}
use Rattle.acq_history.specs.Entries.{remaining_by}
use Rattle.acq_history.specs.Entries.{approval_in, is_cutover, enrolment_in, terminal_in}

-- ---- what all share

-- the day after an entry: a cutover that was made adds one
abbrev pub day_after : ℕ → List Entry → ℕ
day_after first [] = first
day_after first (e ∷ h) =
    if is_cutover e.arrival && is_performed e.outcome then e.day + 1 else e.day

-- the ranges after what came was done
abbrev pub ranges_with : Arrival → List Range → List Range
ranges_with (RangeAdded range) ranges = with_range ranges range
ranges_with (RangeDropped low high) ranges = without_range ranges low high
ranges_with arrival ranges = ranges

-- the ranges after an entry
abbrev pub ranges_after : List Entry → List Range
ranges_after [] = []
ranges_after (e ∷ h) = if is_performed e.outcome then ranges_with e.arrival e.ranges else e.ranges

-- ---- enrolment

-- the merchant as it was enrolled
abbrev pub enrolled : List Entry → Option Merchant
enrolled [] = None
enrolled (e ∷ h) =
    option_or (enrolled h) (if is_performed e.outcome then enrolment_in e.arrival else None)

-- a text is there, and is this one
abbrev pub is_text : List ℕ → Option (List ℕ) → Bool
is_text id None = false
is_text id (Some text) = bytes_eq text id

-- a terminal was added
abbrev pub has_terminal : List Entry → List ℕ → Bool
has_terminal h id = list_any (λ e. is_performed e.outcome && is_text id (terminal_in e.arrival)) h

-- ---- recorded and admitted requests

-- a request's entry, the entries before it, and those that came later
pub record Found : Type 0 where
  pub request : RequestMessage
  pub entry : Entry
  pub before : List Entry
  pub later : List Entry

-- the newest entry: nothing came later
abbrev pub newest : RequestMessage → Entry → List Entry → Found
newest r e h = record { request = r; entry = e; before = h; later = [] }

-- another entry came after it
abbrev pub aged : Entry → Found → Found
aged e f = record f { later = e ∷ f.later }

-- the request of the newest entry, if it has this key and the merchant check passed it
abbrev pub recording : RequestKey → Entry → List Entry → Option RequestMessage → Option Found
recording key e h None = None
recording key e h (Some r) =
    if same_key (key_of r.service r.message) key && is_past_merchant e.outcome
    then Some (newest r e h) else None

-- the first request with this key that the merchant check passed
abbrev pub recorded : RequestKey → List Entry → Option Found
recorded key [] = None
recorded key (e ∷ h) =
    option_or (option_map (aged e) (recorded key h)) (recording key e h (request_of e.arrival))

-- an authorization, a sale or a return with a new key whose issuer was asked
abbrev pub admits : Option RequestMessage → Entry → List Entry → Bool
admits None e h = false
admits (Some r) e h =
    is_admissible r.service && is_asked e.outcome
    && is_none (recorded (key_of r.service r.message) h)

-- an entry of such a request
abbrev pub is_admission : Entry → List Entry → Bool
is_admission e h = admits (request_of e.arrival) e h

-- how many requests were admitted
abbrev pub admitted : List Entry → ℕ
admitted [] = 0
admitted (e ∷ h) = if is_admission e h then 1 + admitted h else admitted h

-- a merchant's first reference
abbrev pub first_reference : Option Merchant → ℕ
first_reference None = 0
first_reference (Some merchant) = merchant.first_reference

-- the reference that the next admitted request gets: the merchant's first, plus the number of those
-- admitted before
abbrev pub next_reference : List Entry → ℕ
next_reference h = first_reference (enrolled h) + admitted h

-- the request of the newest entry, if it was admitted under this reference
abbrev pub referring : ℕ → Entry → List Entry → Option RequestMessage → Option Found
referring n e h None = None
referring n e h (Some r) =
    if admits (Some r) e h && (next_reference h == n) then Some (newest r e h) else None

-- the request that was admitted under this reference
abbrev pub referred : ℕ → List Entry → Option Found
referred n [] = None
referred n (e ∷ h) =
    option_or (option_map (aged e) (referred n h)) (referring n e h (request_of e.arrival))

-- ---- what became of a recorded request, by the entries after it

-- its issuer was asked, under a new key
abbrev pub is_admitted : Found → Bool
is_admitted f = admits (Some f.request) f.entry f.before

-- the host accepted it
abbrev pub is_accepted : Found → Bool
is_accepted f = accepts is_acceptable (Some f.request) f.entry.outcome

-- the reference of an admitted request
abbrev pub reference_of : Found → Option ℕ
reference_of f = if is_admitted f then Some (next_reference f.before) else None

-- the answer to it
abbrev pub answer_to : Found → Option Entry
answer_to f = option_and_then (λ n. find (is_answer n) f.later) (reference_of f)

-- when its issuer approved it
abbrev pub approval_of : Found → Option ℕ
approval_of f = option_and_then (λ e. approval_in e.arrival) (answer_to f)

-- one of the entries fits the reference, where there is one
abbrev pub any_with : (ℕ → Entry → Bool) → Option ℕ → List Entry → Bool
any_with fits None es = false
any_with fits (Some n) es = list_any (fits n) es

-- an accepted completion has its reference
abbrev pub is_completed : Found → Bool
is_completed f = any_with is_completing (reference_of f) f.later

-- the accepted reversal that has it as its original, by what that lets remain
abbrev pub reversal_of : Found → Option ℕ
reversal_of f =
    option_map (λ e. remaining_by (request_of e.arrival))
    (find (is_reversing (key_of f.request.service f.request.message)) f.later)

-- there is one
abbrev pub is_reversed : Found → Bool
is_reversed f = is_some (reversal_of f)

-- what remains of a hold that was lowered
abbrev pub lowered_to : Service → Option ℕ → Option ℕ
lowered_to service None = None
lowered_to service (Some remaining) =
    if is_lowered service remaining then Some remaining else None

-- it was reversed, and not lowered
abbrev pub is_undone : Found → Bool
is_undone f = is_reversed f && is_none (lowered_to f.request.service (reversal_of f))

-- its amount: of a hold that was lowered, what remains
abbrev pub amount_of : Found → ℕ
amount_of f =
    unwrap_or (lowered_to f.request.service (reversal_of f)) (amount_in f.request.message)

-- it was answered, and not approved
abbrev pub is_declined : Found → Bool
is_declined f = is_some (answer_to f) && is_none (approval_of f)

-- it can be reversed: it was admitted or accepted, and neither completed, reversed nor declined
abbrev pub is_reversible : Found → Bool
is_reversible f =
    (is_admitted f || is_accepted f) && not (is_completed f) && not (is_reversed f)
    && not (is_declined f)

-- the reply that was kept: its own, or that of its answer
abbrev pub kept_reply : Found → Option IsoMessage
kept_reply f =
    option_or (reply_in f.entry.outcome) (option_and_then (λ e. reply_in e.outcome) (answer_to f))

-- what a request without a reply gets
abbrev pub reply_state_without : Bool → IsoMessage → ReplyState
reply_state_without true draft = Late
reply_state_without false draft = Awaited draft

-- what a request gets, by the reply that was kept
abbrev pub reply_state_with : Option IsoMessage → Bool → IsoMessage → ReplyState
reply_state_with (Some reply) reversed draft = Kept reply
reply_state_with None reversed draft = reply_state_without reversed draft

-- what a repeat of it gets
abbrev pub reply_state_of : Found → ReplyState
reply_state_of f =
    reply_state_with (kept_reply f) (is_reversed f)
    (draft_reply f.entry.day f.request (next_reference f.before))

-- the hold days of its card's range, as the ranges stood when it came
abbrev pub hold_days_of : Found → Option ℕ
hold_days_of f =
    if is_admitted f
    then option_map (λ range. range.hold_days)
    (range_of_prefix f.entry.ranges (prefix_of (or_empty (card_of f.request.message))))
    else None

-- the hold that an accepted completion completes
abbrev pub hold_of : Found → Option Found
hold_of f = option_and_then (λ n. referred n f.before) (reference_in f.request.message)

-- what it posts under, by its service
abbrev pub leg_by : Service → Found → Option Leg
leg_by Financial f = if is_admitted f then Some (sale_leg f.request.message) else None
leg_by Completion f = if is_accepted f then Some Debit else None
leg_by service f = None

-- the reference that a reversal of it shows
abbrev pub reference_by : Service → Found → Option ℕ
reference_by Completion f = if is_accepted f then reference_in f.request.message else None
reference_by service f = reference_of f

-- its card; that of the hold where it is an accepted completion
abbrev pub card_by : Service → Found → Option (List ℕ)
card_by Completion f =
    if is_accepted f then option_and_then (λ hold. card_of hold.request.message) (hold_of f)
    else card_of f.request.message
card_by service f = card_of f.request.message

-- until when it is open: a hold that was approved and neither completed nor undone
abbrev pub hold_end_by : Service → Found → Option ℕ
hold_end_by Authorization f =
    if is_completed f || is_undone f then None
    else option_and_then (λ moment. option_map (end_of_hold moment) (hold_days_of f))
    (approval_of f)
hold_end_by service f = None

-- what is known of a recorded request
abbrev pub prior : Found → Prior
prior f =
    record {
      key = key_of f.request.service f.request.message;
      essence = essence_of f.request.service f.request.message;
      day = f.entry.day;
      amount = amount_of f;
      leg = leg_by f.request.service f;
      card = card_by f.request.service f;
      acquirer = content_of f.request.message.elements 32;
      reference = reference_by f.request.service f;
      hold_days = hold_days_of f;
      reply_state = reply_state_of f;
      is_reversible = is_reversible f;
      hold_end = hold_end_by f.request.service f;
    }

-- ---- postings and counts

-- what an accepted reversal posts, today
abbrev pub posting_by_reversal : Entry → List Entry → RequestMessage → Option Posting
posting_by_reversal e h r =
    option_and_then (λ f. reversal_posting e.day r (prior f))
    (option_and_then (λ key. recorded key h) (original_key r.message))

-- what a request posts that the host accepted
abbrev pub posting_by : Service → Entry → List Entry → RequestMessage → Option Posting
posting_by Completion e h r =
    option_map (λ hold. completion_posting e.day r (prior hold))
    (option_and_then (λ n. referred n h) (reference_in r.message))
posting_by Reversal e h r = posting_by_reversal e h r
posting_by ReversalAdvice e h r = posting_by_reversal e h r
posting_by service e h r = None

-- what an entry posts: an approval of a sale or return, an accepted completion, or an accepted
-- reversal of what was posted
abbrev pub posting_from : Arrival → Entry → List Entry → Option Posting
posting_from (Answered moment merchant reference verdict) e h =
    if is_some (reply_in e.outcome)
    then option_and_then (λ f. answer_posting verdict (prior f)) (referred reference h) else None
posting_from (Requested r) e h = if is_acceptance e then posting_by r.service e h r else None
posting_from arrival e h = None

-- what an entry posts
abbrev pub posting_of : Entry → List Entry → Option Posting
posting_of e h = posting_from e.arrival e h

-- the postings of the entries in their order, each with its number of the day
abbrev pub postings : List Entry → List (ℕ × Posting)
postings [] = []
postings (e ∷ h) = with_next_posting (postings h) (posting_of e h)

-- how many entries of a day count against its limit: the admitted and the accepted
abbrev pub used : List Entry → ℕ → ℕ
used [] day = 0
used (e ∷ h) day =
    if (is_admission e h || is_acceptance e) && (e.day == day) then 1 + used h day else used h day

-- what a history says, of a book that began so
abbrev pub facts_of : Opening → List Entry → Facts
facts_of opening h =
    record {
      today = day_after opening.first_day h;
      limit = opening.limit;
      merchant = enrolled h;
      has_terminal = has_terminal h;
      recorded = λ key. option_map prior (recorded key h);
      referred = λ n. option_map prior (referred n h);
      admitted = admitted h;
      used = used h;
      totals = totals_on (postings h);
      range = range_of_prefix (ranges_after h);
      overlapped = λ low high. overlapped_by (between low high) (ranges_after h);
    }
