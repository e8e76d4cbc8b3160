-- What each event posts: exactly one row more, or nothing.
use Rattle.std.specs.Prelude.{◌≡◌, ◌⊎◌, ℕ, ◌+◌, ◌-◌, Bool, true, false, List, [], ◌∷◌, ◌++◌, Option}
use Rattle.std.specs.Prelude.{Some, None, option_map, if◌then◌else◌}
use Rattle.std.specs.Option.{option_or}
use Rattle.iso_codec.specs.Message.{IsoMessage}
use Rattle.day_totals.specs.declared.leg.Leg.TheVariants.{Debit}
use Rattle.acq_message.specs.declared.service.Service.{Service}
use Rattle.acq_message.specs.declared.service.Service.TheVariants.{Financial}
use Rattle.acq_message.specs.declared.request_key.RequestKey.{RequestKey}
use Rattle.acq_message.specs.declared.request_message.RequestMessage.{RequestMessage}
use Rattle.acq_message.specs.declared.response_code.ResponseCode.TheVariants as code
use Rattle.acq_message.specs.declared.verdict.Verdict.TheVariants as verdict
use Rattle.acq_message.specs.Elements.{text_at, or_empty, amount_in, reference_in, key_of}
use Rattle.acq_message.specs.Elements.{sale_leg, original_key, remaining_in}
use Rattle.acq_message.specs.Cards.{card_of}
use Rattle.acq_core.specs.declared.event.Event.{Event}
use Rattle.acq_core.specs.declared.posting.Posting.{Posting}
use Rattle.acq_core.specs.declared.arrival.Arrival.{Arrival}
use Rattle.acq_core.specs.declared.arrival.Arrival.TheVariants.{Requested, Answered}
use Rattle.acq_core.specs.Changes.{reversal_leg}
use Rattle.acq_core.specs.Outcome.{Replied, outcome}
use Rattle.acq_core.specs.Arrivals.{arrival_of}
use Rattle.acq_core.specs.Tables.{Opening, postings_before, postings_of}
use Rattle.acq_soundness.specs.Requests.{is_reversal}
use Rattle.acq_history.specs.Entries.{Entry, is_completion, is_key}
use Rattle.acq_history.specs.History.{Found, referred, answer_to, is_reversed, posting_of, postings}
use Rattle.acq_history.specs.History.{day_after}
use Rattle.acq_history.specs.PartyHistory.{is_of, known_by, entry_for, history_of, book_after}

-- ---- one row more, or none

-- behind the postings so far stands this one, under the next number of its merchant and day
abbrev pub PostsRow : Opening → List Entry → Arrival → Posting → Type 0
PostsRow opening h a p =
    postings (entry_for opening h a ∷ h)
    ≡ postings h ++ (postings_before (postings h) p + 1, p) ∷ []

-- the postings stay as they are
abbrev pub PostsNothing : Opening → List Entry → Arrival → Type 0
PostsNothing opening h a = postings (entry_for opening h a ∷ h) ≡ postings h

-- ---- sales and returns

-- an issuer approves a sale or a return that is neither answered nor reversed yet
pub record ApprovesSale (h : List Entry) (a : Arrival) : Type 0 where
  pub moment : ℕ
  pub merchant : List ℕ
  pub reference : ℕ
  pub id : List ℕ
  pub sale : Found
  pub came : a ≡ Answered moment merchant reference (verdict.Approved id)
  pub found : referred reference h ≡ Some sale
  pub service : sale.request.service ≡ Financial
  pub unanswered : answer_to sale ≡ None
  pub unreversed : is_reversed sale ≡ false

-- the posting of a sale or a return: of the day on which it came
abbrev pub sale_posting : ℕ → Found → Posting
sale_posting reference sale =
    record {
      merchant = text_at sale.request.message 42;
      day = sale.entry.day;
      leg = sale_leg sale.request.message;
      amount = amount_in sale.request.message;
      reference = reference;
      card = or_empty (card_of sale.request.message);
      terminal = text_at sale.request.message 41;
      trace = text_at sale.request.message 11;
    }

-- ---- completions and reversals

-- a request of such a service that the host itself approves
pub record IsAccepted (opening : Opening) (h : List Entry) (a : Arrival)
    (fits : Service → Bool) : Type 0 where
  pub request : RequestMessage
  pub reply : IsoMessage
  pub came : a ≡ Requested request
  pub service : fits request.service ≡ true
  pub approved : outcome (known_by opening h a) a ≡ Replied code.Approved reply

-- the posting of a completion of the hold with a reference: of today
abbrev pub completion_posting : ℕ → RequestMessage → ℕ → Found → Posting
completion_posting today r reference hold =
    record {
      merchant = text_at r.message 42;
      day = today;
      leg = Debit;
      amount = amount_in r.message;
      reference = reference;
      card = or_empty (card_of hold.request.message);
      terminal = text_at r.message 41;
      trace = text_at r.message 11;
    }

-- a completion posts just that
pub record PostsCompletion (opening : Opening) (h : List Entry) (a : Arrival)
    (r : RequestMessage) : Type 0 where
  pub reference : ℕ
  pub hold : Found
  pub named : reference_in r.message ≡ Some reference
  pub found : referred reference h ≡ Some hold
  pub posts :
      PostsRow opening h a
      (completion_posting (day_after opening.first_day h) r reference hold)

-- ---- what was posted by an earlier entry

-- the key of the request that an entry is about: its own, or that of the one that it answers
abbrev pub key_about : Arrival → List Entry → Option RequestKey
key_about (Requested r) h = Some (key_of r.service r.message)
key_about (Answered moment merchant reference verdict) h =
    option_map (λ f. key_of f.request.service f.request.message) (referred reference h)
key_about arrival h = None

-- what an entry posts about the request with a key
abbrev pub posting_about : RequestKey → Entry → List Entry → Option Posting
posting_about key e h = if is_key key (key_about e.arrival h) then posting_of e h else None

-- what an entry of a history has posted about the request with a key
abbrev pub posted_about : RequestKey → List Entry → Option Posting
posted_about key [] = None
posted_about key (e ∷ h) = option_or (posted_about key h) (posting_about key e h)

-- the host accepts a reversal of what an earlier entry has posted
pub record ReversesPosted (opening : Opening) (h : List Entry) (a : Arrival) : Type 0 where
  pub reversal : IsAccepted opening h a is_reversal
  pub original : RequestKey
  pub posting : Posting
  pub named : original_key reversal.request.message ≡ Some original
  pub posted : posted_about original h ≡ Some posting

-- the posting of a reversal: of today, under the leg that reverses the original's, of what the
-- reversal takes of its amount
abbrev pub reversing_posting : ℕ → RequestMessage → Posting → Posting
reversing_posting today r original =
    record {
      merchant = text_at r.message 42;
      day = today;
      leg = reversal_leg original.leg;
      amount = original.amount - remaining_in r.message;
      reference = original.reference;
      card = original.card;
      terminal = text_at r.message 41;
      trace = text_at r.message 11;
    }

-- ---- the laws

-- the histories of a merchant's own events
module _ (m : List ℕ) where
  -- an approved sale or return posts exactly one row
  abbrev pub ApprovalsPost : Type 0
  ApprovalsPost =
      (opening : Opening) (es : List Event) (a : Arrival) →
      let h = history_of opening (Some m) es in
      (approval : ApprovesSale h a) →
      PostsRow opening h a (sale_posting approval.reference approval.sale)

  -- an accepted completion posts exactly one row
  abbrev pub CompletionsPost : Type 0
  CompletionsPost =
      (opening : Opening) (es : List Event) (a : Arrival) →
      let h = history_of opening (Some m) es in
      (completion : IsAccepted opening h a is_completion) →
      PostsCompletion opening h a completion.request

  -- an accepted reversal of what was posted posts exactly one row
  abbrev pub ReversalsPost : Type 0
  ReversalsPost =
      (opening : Opening) (es : List Event) (a : Arrival) →
      let h = history_of opening (Some m) es in
      (reverses : ReversesPosted opening h a) →
      PostsRow opening h a
      (reversing_posting (day_after opening.first_day h) reverses.reversal.request reverses.posting)

  -- nothing else posts
  abbrev pub NothingElsePosts : Type 0
  NothingElsePosts =
      (opening : Opening) (es : List Event) (a : Arrival) →
      let h = history_of opening (Some m) es in
      PostsNothing opening h a
      ⊎ (ApprovesSale h a ⊎ (IsAccepted opening h a is_completion ⊎ ReversesPosted opening h a))

  -- so it is in the tables: an event of the merchant's adds to its rows of postings what its entry
  -- posts, and any other event nothing
  abbrev pub TablesPost : Type 0
  TablesPost =
      (opening : Opening) (es : List Event) (e : Event) →
      let h = history_of opening (Some m) es in
      postings_of m (book_after opening (es ++ e ∷ [])).postings
      ≡ (if is_of (Some m) (arrival_of e) then postings (entry_for opening h (arrival_of e) ∷ h)
      else postings_of m (book_after opening es).postings)
