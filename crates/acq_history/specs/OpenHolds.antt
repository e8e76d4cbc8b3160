-- What is told of open holds is what can still be captured, exactly.
use Rattle.std.specs.Prelude.{◌≡◌, ◌≤◌, ◌↔◌, ℕ, ◌+◌, ◌*◌, true, false, List, map, Some, unwrap_or}
use Rattle.std.specs.Prelude.{codes}
use Rattle.std.specs.List.{Contains}
use Rattle.acq_message.specs.declared.service.Service.TheVariants.{Authorization, Completion}
use Rattle.acq_message.specs.declared.request_message.RequestMessage.{RequestMessage}
use Rattle.card_no.specs.declared.range.Range.{Range}
use Rattle.card_no.specs.CardNumbers.{prefix_of}
use Rattle.card_no.specs.Ranges.{range_of_prefix}
use Rattle.acq_message.specs.Cards.{card_of}
use Rattle.acq_message.specs.Elements.{or_empty}
use Rattle.acq_message.specs.Elements.{text_at, amount_in, transaction_in, reference_in}
use Rattle.acq_message.specs.Numbers.{is_accepted_amount}
use Rattle.acq_core.specs.declared.merchant.Merchant.{Merchant}
use Rattle.acq_core.specs.declared.event.Event.{Event}
use Rattle.acq_core.specs.Known.{Prior}
use Rattle.acq_core.specs.Tables.{Opening, prior_of, requests_of}
use Rattle.acq_history.specs.Entries.{Entry}
use Rattle.acq_history.specs.History.{Found, referred, prior, ranges_after, approval_of}
use Rattle.acq_history.specs.History.{is_completed, is_undone, reversal_of}
use Rattle.acq_history.specs.PartyHistory.{history_of, book_after}
use Rattle.acq_history.specs.Isolation.{open_at}
use Rattle.acq_history.specs.Acceptance.{IsNewRequest, result_on}
use Rattle.acq_history.specs.Told.{IsTold00}

-- a completion that passes every check but those of the hold that it names
pub record AsksToCapture (opening : Opening) (h : List Entry) (r : RequestMessage)
    (merchant : Merchant) (reference : ℕ) : Type 0 where
  pub request : IsNewRequest opening h r merchant
  pub service : r.service ≡ Completion
  pub transaction : transaction_in r.message ≡ codes "00"
  pub currency : text_at r.message 49 ≡ merchant.currency
  pub amount : is_accepted_amount (amount_in r.message) ≡ true
  pub named : reference_in r.message ≡ Some reference

-- the open holds among a merchant's rows at a moment
abbrev pub open_holds : List ℕ → Opening → List Event → ℕ → List Prior
open_holds m opening es moment =
    open_at moment (map prior_of (requests_of m (book_after opening es).requests))

-- one of them has this reference, and no smaller amount
pub record IsListed (holds : List Prior) (reference amount : ℕ) : Type 0 where
  pub hold : Prior
  pub listed : Contains holds hold
  pub numbered : hold.reference ≡ Some reference
  pub enough : amount ≤ hold.amount

-- a hold that is open for the hold days of its card's range, as the ranges stood when it came
pub record IsOpenUntil (hold : Found) (approved : ℕ) : Type 0 where
  pub range : Range
  pub in_range :
      range_of_prefix (ranges_after hold.before)
      (prefix_of (or_empty (card_of hold.request.message)))
      ≡ Some range
  pub until : (prior hold).hold_end ≡ Some (approved + range.hold_days * 86400)

-- what is left of a hold: what a reversal let remain of it, else all of it
abbrev pub left_of : Found → ℕ
left_of hold = unwrap_or (reversal_of hold) (amount_in hold.request.message)

-- the histories of a merchant's own events
module _ (m : List ℕ) where
  -- a completion is told 00 exactly if its hold is one of the open ones, of no smaller amount
  abbrev pub OpenHoldsAreCapturable : Type 0
  OpenHoldsAreCapturable =
      (opening : Opening) (es : List Event) (r : RequestMessage) (merchant : Merchant)
      (reference : ℕ) →
      AsksToCapture opening (history_of opening (Some m) es) r merchant reference →
      IsTold00 (result_on m opening es r)
      ↔ IsListed (open_holds m opening es r.moment) reference (amount_in r.message)

  -- an approved authorization is open for its range's hold days, the last second included, unless
  -- it was completed or undone
  abbrev pub ApprovedHoldsAreOpen : Type 0
  ApprovedHoldsAreOpen =
      (opening : Opening) (es : List Event) (reference approved : ℕ) (hold : Found) →
      referred reference (history_of opening (Some m) es) ≡ Some hold →
      hold.request.service ≡ Authorization → approval_of hold ≡ Some approved →
      is_completed hold ≡ false → is_undone hold ≡ false →
      IsOpenUntil hold approved

  -- so is one of which a reversal let something remain, and what is left of it can be captured
  abbrev pub LoweredHoldsStayOpen : Type 0
  LoweredHoldsStayOpen =
      (opening : Opening) (es : List Event) (reference approved : ℕ) (hold : Found) →
      referred reference (history_of opening (Some m) es) ≡ Some hold →
      hold.request.service ≡ Authorization → approval_of hold ≡ Some approved →
      is_completed hold ≡ false → 1 ≤ left_of hold →
      IsOpenUntil hold approved × ((prior hold).amount ≡ left_of hold)
