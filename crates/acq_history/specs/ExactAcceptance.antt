-- Only what may be is asked about, completed or reversed: the converse of what `Acceptance` says, so
-- that a request is admitted or accepted exactly if it passes each check.
use Rattle.std.specs.Prelude.{◌≡◌, ℕ, true, List, Some, None, codes}
use Rattle.card_no.specs.declared.range.Range.{Range}
use Rattle.acq_message.specs.declared.service.Service.TheVariants.{Completion}
use Rattle.acq_message.specs.declared.request_message.RequestMessage.{RequestMessage}
use Rattle.acq_message.specs.Cards.{card_of}
use Rattle.acq_message.specs.Elements.{text_at, amount_in, transaction_in, key_of}
use Rattle.day_totals.specs.declared.leg.Leg.TheVariants.{Credit, Debit}
use Rattle.acq_core.specs.declared.merchant.Merchant.{Merchant}
use Rattle.acq_core.specs.declared.event.Event.{Event}
use Rattle.acq_core.specs.declared.query.Query.{Query}
use Rattle.acq_core.specs.Outcome.{Asked, query_of}
use Rattle.acq_core.specs.Tables.{Opening}
use Rattle.acq_soundness.specs.Requests.{is_reversal}
use Rattle.acq_history.specs.Entries.{Entry}
use Rattle.acq_history.specs.History.{Found, recorded, referred, next_reference}
use Rattle.acq_history.specs.PartyHistory.{history_of}
use Rattle.acq_history.specs.Told.{IsTold00}
use Rattle.acq_history.specs.Acceptance.{MayBeAdmitted, MayComplete, MayReverse, result_on}

-- a query that asks for what a request says, of a card in this range, under a reference
pub record AsksAsSaid (r : RequestMessage) (range : Range) (reference : ℕ)
    (query : Query) : Type 0 where
  pub merchant : query.merchant ≡ text_at r.message 42
  pub numbered : query.reference ≡ reference
  pub service : query.service ≡ r.service
  pub bought : transaction_in r.message ≡ codes "00" → query.leg ≡ Debit
  pub returned : transaction_in r.message ≡ codes "20" → query.leg ≡ Credit
  pub card : card_of r.message ≡ Some query.card
  pub amount : query.amount ≡ amount_in r.message
  pub issuer : query.issuer ≡ range.issuer

-- a query about a request that may be admitted: it asks for what the request does, under the next
-- reference
pub record IsAdmission (opening : Opening) (h : List Entry) (r : RequestMessage)
    (query : Query) : Type 0 where
  pub merchant : Merchant
  pub range : Range
  pub may : MayBeAdmitted opening h r merchant range
  pub asks : query ≡ query_of r range (next_reference h)
  pub says : AsksAsSaid r range (next_reference h) query

-- a request that was admitted under a reference, by the entries before it
pub record WasAdmitted (opening : Opening) (reference : ℕ) (f : Found) : Type 0 where
  pub merchant : Merchant
  pub range : Range
  pub may : MayBeAdmitted opening f.before f.request merchant range
  pub numbered : next_reference f.before ≡ reference

-- the histories of a merchant's own events
module _ (m : List ℕ) where
  -- an issuer is asked only about a request that may be admitted
  abbrev pub AdmitsOnly : Type 0
  AdmitsOnly =
      (opening : Opening) (es : List Event) (r : RequestMessage) (query : Query) →
      let h = history_of opening (Some m) es in
      result_on m opening es r ≡ Asked query →
      IsAdmission opening h r query

  -- a completion under a new key is told 00 only if it may complete its hold
  abbrev pub CompletesOnly : Type 0
  CompletesOnly =
      (opening : Opening) (es : List Event) (r : RequestMessage) →
      let h = history_of opening (Some m) es in
      r.service ≡ Completion →
      recorded (key_of r.service r.message) h ≡ None →
      IsTold00 (result_on m opening es r) →
      (merchant : Merchant) × MayComplete opening h r merchant

  -- a reversal under a new key is told 00 only if it may reverse its original
  abbrev pub ReversesOnly : Type 0
  ReversesOnly =
      (opening : Opening) (es : List Event) (r : RequestMessage) →
      let h = history_of opening (Some m) es in
      is_reversal r.service ≡ true →
      recorded (key_of r.service r.message) h ≡ None →
      IsTold00 (result_on m opening es r) →
      (merchant : Merchant) × (original : Found) × MayReverse opening h r merchant original

  -- a request that was admitted passed every check when it came; so what its issuer's answer tells
  -- is told only of such
  abbrev pub AdmittedMayBe : Type 0
  AdmittedMayBe =
      (opening : Opening) (es : List Event) (reference : ℕ) (f : Found) →
      referred reference (history_of opening (Some m) es) ≡ Some f →
      WasAdmitted opening reference f
