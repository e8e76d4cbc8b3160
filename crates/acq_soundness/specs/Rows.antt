-- Each column of each row is what its Rust type holds.
use Rattle.std.specs.Prelude.{◌≡◌, ◌≤◌, ℕ, ◌+◌, ◌*◌, true, List, All, IfSome}
use Rattle.card_no.specs.Ranges.{least_hold_days, greatest_hold_days}
use Rattle.card_no.specs.Track2.{may_be_number}
use Rattle.day_totals.specs.Day.{last_day}
use Rattle.iso_codec.specs.Message.{IsMessage}
use Rattle.acq_message.specs.declared.request_key.RequestKey.{RequestKey}
use Rattle.acq_message.specs.Names.{is_merchant, is_terminal, is_currency, is_trace}
use Rattle.acq_message.specs.Names.{is_transmission}
use Rattle.acq_message.specs.Numbers.{is_amount, is_reference}
use Rattle.acq_core.specs.declared.event.Event.{Event}
use Rattle.acq_core.specs.declared.merchant.Merchant.{Merchant}
use Rattle.acq_core.specs.declared.terminal.Terminal.{Terminal}
use Rattle.acq_core.specs.declared.request.Request.{Request}
use Rattle.acq_core.specs.declared.posting.Posting.{Posting}
use Rattle.acq_core.specs.declared.reconciliation.Reconciliation.{Reconciliation}
use Rattle.acq_core.specs.Numbers.{is_first_reference}
use Rattle.acq_core.specs.Tables.{Opening, Tables, new_tables, tables_after}
use Rattle.acq_core.specs.Events.{AreEvents, IsOpening}
use Rattle.acq_soundness.specs.CardData.{may_be_acquirer}

-- how many days a hold may last
abbrev pub AreHoldDays : ℕ → Type 0
AreHoldDays n = (least_hold_days ≤ n) × (n ≤ greatest_hold_days)

-- the last second at which any hold may be open: so many days after the last moment
abbrev pub greatest_hold_end : ℕ
greatest_hold_end = 4102444799 + greatest_hold_days * 86400

pub record FitsMerchant (row : Merchant) : Type 0 where
  pub id : is_merchant row.id ≡ true
  pub currency : is_currency row.currency ≡ true
  pub first_reference : is_first_reference row.first_reference ≡ true

pub record FitsTerminal (row : Terminal) : Type 0 where
  pub merchant : is_merchant row.merchant ≡ true
  pub id : is_terminal row.id ≡ true

pub record FitsKey (key : RequestKey) : Type 0 where
  pub merchant : is_merchant key.merchant ≡ true
  pub terminal : is_terminal key.terminal ≡ true
  pub trace : is_trace key.trace ≡ true
  pub transmission : is_transmission key.transmission ≡ true

pub record FitsRequest (row : Request) : Type 0 where
  pub key : FitsKey row.key
  pub day : row.day ≤ last_day
  pub reference : IfSome row.reference (λ n. is_reference n ≡ true)
  pub follows : IfSome row.follows (λ n. is_reference n ≡ true)
  pub amount : is_amount row.amount ≡ true
  pub card : IfSome row.card (λ text. may_be_number text ≡ true)
  pub acquirer : IfSome row.acquirer (λ text. may_be_acquirer text ≡ true)
  pub hold_days : IfSome row.hold_days AreHoldDays
  pub hold_end : IfSome row.hold_end (λ n. n ≤ greatest_hold_end)
  pub reply : IsMessage row.reply

-- its number is one of those that the limit allows
pub record FitsPosting (limit : ℕ) (row : ℕ × Posting) : Type 0 where
  pub number : row.0 ≤ limit
  pub merchant : is_merchant row.1.merchant ≡ true
  pub day : row.1.day ≤ last_day
  pub amount : is_amount row.1.amount ≡ true
  pub reference : is_reference row.1.reference ≡ true
  pub card : may_be_number row.1.card ≡ true
  pub terminal : is_terminal row.1.terminal ≡ true
  pub trace : is_trace row.1.trace ≡ true

pub record FitsReconciliation (row : ℕ × Reconciliation) : Type 0 where
  pub merchant : is_merchant row.1.merchant ≡ true
  pub day : row.1.day ≤ last_day

-- all rows but the ranges, which are valid
pub record HasFittingRows (t : Tables) : Type 0 where
  pub merchants : All FitsMerchant t.merchants
  pub terminals : All FitsTerminal t.terminals
  pub requests : All FitsRequest t.requests
  pub postings : All (FitsPosting t.limit) t.postings
  pub reconciliations : All FitsReconciliation t.reconciliations

-- Whatever comes, each row fits its type.
abbrev pub RowsFitTheirTypes : Type 0
RowsFitTheirTypes =
    (opening : Opening) (es : List Event) → IsOpening opening → AreEvents es →
    HasFittingRows (tables_after (new_tables opening) es)
