-- Which requests the host admits and accepts, in the words of a history: what the checks let pass.
use Rattle.std.specs.Prelude.{◌≡◌, ◌⊎◌, ◌<◌, ◌≤◌, ℕ, true, false, List, Some, None, codes}
use Rattle.iso_codec.specs.Message.{content_of}
use Rattle.card_no.specs.declared.range.Range.{Range}
use Rattle.card_no.specs.CardNumbers.{is_valid_card, prefix_of}
use Rattle.card_no.specs.Ranges.{range_of_prefix}
use Rattle.acq_message.specs.declared.service.Service.TheVariants.{Financial, Completion}
use Rattle.acq_message.specs.declared.request_key.RequestKey.{RequestKey}
use Rattle.acq_message.specs.declared.request_message.RequestMessage.{RequestMessage}
use Rattle.acq_message.specs.declared.response_code.ResponseCode.TheVariants as code
use Rattle.acq_message.specs.Cards.{card_of, expiry_of}
use Rattle.acq_message.specs.Elements.{text_at, or_empty, amount_in, transaction_in, reference_in}
use Rattle.acq_message.specs.Elements.{key_of, original_key, original_acquirer, remaining_in}
use Rattle.acq_message.specs.Numbers.{is_accepted_amount}
use Rattle.acq_message.specs.Reply.{coded_reply, referring_reply}
use Rattle.acq_core.specs.declared.merchant.Merchant.{Merchant}
use Rattle.acq_core.specs.declared.event.Event.{Event}
use Rattle.acq_core.specs.declared.arrival.Arrival.TheVariants.{Requested}
use Rattle.acq_core.specs.Decision.{is_expired, is_open_at, is_awaited, fits_acquirer}
use Rattle.acq_core.specs.Outcome.{Outcome, Replied, Asked, outcome, query_of}
use Rattle.acq_core.specs.Tables.{Opening}
use Rattle.acq_soundness.specs.Requests.{is_admissible, is_reversal}
use Rattle.acq_history.specs.Entries.{Entry}
use Rattle.acq_history.specs.History.{Found, enrolled, has_terminal, recorded, referred, day_after}
use Rattle.acq_history.specs.History.{ranges_after, next_reference, used, amount_of, is_reversible}
use Rattle.acq_history.specs.History.{prior, reply_state_of}
use Rattle.acq_history.specs.PartyHistory.{known_by, history_of}

-- a request by a terminal that its merchant has, under a new key, on a day that has room for it
pub record IsNewRequest (opening : Opening) (h : List Entry) (r : RequestMessage)
    (merchant : Merchant) : Type 0 where
  pub of_merchant : enrolled h ≡ Some merchant
  pub terminal : has_terminal h (text_at r.message 41) ≡ true
  pub new : recorded (key_of r.service r.message) h ≡ None
  pub room : used h (day_after opening.first_day h) < opening.limit

-- an authorization, a sale or a return of an accepted amount in the merchant's currency, whose card
-- is valid, hasn't expired and is in an issuer's range
pub record MayBeAdmitted (opening : Opening) (h : List Entry) (r : RequestMessage)
    (merchant : Merchant) (range : Range) : Type 0 where
  pub request : IsNewRequest opening h r merchant
  pub service : is_admissible r.service ≡ true
  pub transaction :
      (transaction_in r.message ≡ codes "00")
      ⊎ ((r.service ≡ Financial) × (transaction_in r.message ≡ codes "20"))
  pub currency : text_at r.message 49 ≡ merchant.currency
  pub amount : is_accepted_amount (amount_in r.message) ≡ true
  pub valid : is_valid_card (or_empty (card_of r.message)) ≡ true
  pub unexpired : is_expired (day_after opening.first_day h) (expiry_of r.message) ≡ false
  pub in_range :
      range_of_prefix (ranges_after h) (prefix_of (or_empty (card_of r.message))) ≡ Some range

-- a completion, of an accepted amount in the merchant's currency, of a hold that is open and of no
-- smaller amount
pub record MayComplete (opening : Opening) (h : List Entry) (r : RequestMessage)
    (merchant : Merchant) : Type 0 where
  pub request : IsNewRequest opening h r merchant
  pub service : r.service ≡ Completion
  pub transaction : transaction_in r.message ≡ codes "00"
  pub currency : text_at r.message 49 ≡ merchant.currency
  pub amount : is_accepted_amount (amount_in r.message) ≡ true
  pub reference : ℕ
  pub hold : Found
  pub named : reference_in r.message ≡ Some reference
  pub found : referred reference h ≡ Some hold
  pub opens : is_open_at r.moment (prior hold).hold_end ≡ true
  pub within : amount_in r.message ≤ amount_of hold

-- a reversal of an original that can be reversed: it names the amount and lets less of it remain,
-- and a part only where the original waits for no answer
pub record MayReverse (opening : Opening) (h : List Entry) (r : RequestMessage)
    (merchant : Merchant) (original : Found) : Type 0 where
  pub request : IsNewRequest opening h r merchant
  pub service : is_reversal r.service ≡ true
  pub key : RequestKey
  pub named : original_key r.message ≡ Some key
  pub found : recorded key h ≡ Some original
  pub acquirer :
      fits_acquirer (original_acquirer r.message)
      (content_of original.request.message.elements 32) ≡ true
  pub reversible : is_reversible original ≡ true
  pub amount : amount_in r.message ≡ amount_of original
  pub less : remaining_in r.message < amount_of original
  pub answered : (remaining_in r.message ≡ 0) ⊎ (is_awaited (reply_state_of original) ≡ false)

-- ---- the laws

-- the histories of a merchant's own events
module _ (m : List ℕ) where
  -- what a request results in on such a history
  abbrev pub result_on : Opening → List Event → RequestMessage → Outcome
  result_on opening es r =
      outcome (known_by opening (history_of opening (Some m) es) (Requested r)) (Requested r)

  -- of such a request the issuer is asked, under the next reference
  abbrev pub Admits : Type 0
  Admits =
      (opening : Opening) (es : List Event) (r : RequestMessage) (merchant : Merchant)
      (range : Range) →
      let h = history_of opening (Some m) es in
      MayBeAdmitted opening h r merchant range →
      result_on opening es r ≡ Asked (query_of r range (next_reference h))

  -- such a completion is accepted
  abbrev pub AcceptsCompletions : Type 0
  AcceptsCompletions =
      (opening : Opening) (es : List Event) (r : RequestMessage) (merchant : Merchant) →
      let h = history_of opening (Some m) es in
      MayComplete opening h r merchant →
      result_on opening es r
      ≡ Replied code.Approved (coded_reply (day_after opening.first_day h) r code.Approved)

  -- such a reversal is accepted, under the reference of its original
  abbrev pub AcceptsReversals : Type 0
  AcceptsReversals =
      (opening : Opening) (es : List Event) (r : RequestMessage) (merchant : Merchant)
      (original : Found) →
      let h = history_of opening (Some m) es in
      MayReverse opening h r merchant original →
      result_on opening es r
      ≡ Replied code.Approved
      (referring_reply (day_after opening.first_day h) r (prior original).reference code.Approved)
