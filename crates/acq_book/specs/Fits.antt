-- What a change asks of the tables that it is to be made in.
use Rattle.std.specs.Prelude.{◌≡◌, ◌+◌, true, false, Option, None, Some}
use Rattle.std.specs.Prelude.{IfSome, is_some}
use Rattle.card_no.specs.RangeChanges.{add_fault, remove_fault}
use Rattle.day_totals.specs.Totals.{IsWithinLimits, with_leg_amount}
use Rattle.acq_core.specs.declared.request.Request.{Request}
use Rattle.acq_core.specs.declared.posting.Posting.{Posting}
use Rattle.acq_core.specs.declared.change.Change.{Change}
use Rattle.acq_core.specs.declared.change.Change.TheVariants as change
use Rattle.acq_core.specs.Numbers.{is_admitted_count, is_used_count}
use Rattle.acq_core.specs.Tables.{Tables}
use Rattle.acq_book.specs.Lookups.{merchant_at, has_terminal_at, request_at, referred_at}
use Rattle.acq_book.specs.Lookups.{admitted_at, used_at, totals_at}

-- the row's key is new, and so is its reference; where it counts, its day has room for it, and
-- where it was admitted, so has the merchant
pub record IsNew (t : Tables) (row : Request) : Type 0 where
  pub key : request_at t row.key ≡ None
  pub reference : IfSome row.reference (λ n. referred_at t row.key.merchant n ≡ None)
  pub used : row.admitted ≡ true → is_used_count (1 + used_at t row.key.merchant row.day) ≡ true
  pub admitted : is_some row.reference ≡ true →
      is_admitted_count (1 + admitted_at t row.key.merchant) ≡ true

-- the totals of its day have room for it
abbrev pub HasRoom : Tables → Option Posting → Type 0
HasRoom t posting =
    IfSome posting
    (λ p. IsWithinLimits (with_leg_amount (totals_at t p.merchant p.day) p.leg p.amount))

-- it is posted to the row's own merchant and day
pub record IsPostedBy (row : Request) (p : Posting) : Type 0 where
  pub merchant : p.merchant ≡ row.key.merchant
  pub day : p.day ≡ row.day

-- a change whose keys are new, or of a row that is there, and for which there is room
abbrev pub Fits : Tables → Change → Type 0
Fits t (change.AddMerchant merchant) = merchant_at t merchant.id ≡ None
Fits t (change.AddTerminal terminal) = has_terminal_at t terminal.merchant terminal.id ≡ false
Fits t (change.AddRange range) = add_fault t.ranges range ≡ None
Fits t (change.DropRange low high) = remove_fault t.ranges low high ≡ None
Fits t (change.SetDay day) = Unit {0}
Fits t (change.AddRequest row) = IsNew t row
Fits t (change.Answered key status reply hold_end posting) = HasRoom t posting
Fits t (change.Follow row original remains posting) =
    IsNew t row × HasRoom t posting × IfSome posting (IsPostedBy row)
Fits t (change.Reconciled row reconciliation) = IsNew t row

-- the request that it answers is there
abbrev pub HasItsRequest : Tables → Change → Type 0
HasItsRequest t (change.Answered key status reply hold_end posting) =
    (row : Request) × (request_at t key ≡ Some row)
HasItsRequest t change = Unit
