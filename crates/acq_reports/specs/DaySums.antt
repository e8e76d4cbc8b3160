-- The sums of a day's postings, by merchant.
use Rattle.std.specs.Prelude.{◌≡◌, ℕ, ◌-◌, ◌^◌, min, Bool, true, false, List, [], ◌∷◌, ◌++◌, map}
use Rattle.std.specs.Prelude.{filter, not, is_some, Option, Some, None}
use Rattle.std.specs.HashMap.{HashMap, get}
use Rattle.day_totals.specs.Totals.{DayTotals, totals_of, zero_totals}
use Rattle.day_totals.specs.declared.leg_total.LegTotal.{LegTotal}
use Rattle.acq_core.specs.declared.posting.Posting.{Posting}
use Rattle.acq_core.specs.Tables.{Tables, postings_of}
use Rattle.acq_book.specs.Keys.{merchant_eq}
use Rattle.acq_book.specs.Lookups.{totals_at}
use Rattle.acq_reports.specs.declared.leg_sum.LegSum.{LegSum}
use Rattle.acq_reports.specs.declared.merchant_sums.MerchantSums.{MerchantSums}
use Rattle.acq_reports.specs.declared.sums.Sums.{Sums}

-- a number, or the greatest of 64 bits where they don't hold it
abbrev pub capped : ℕ → ℕ
capped n = min n (2 ^ 64 - 1)

abbrev pub capped_leg : LegTotal → LegSum
capped_leg total = record { count = capped total.count; amount = capped total.amount }

-- the sums of postings that have these totals
abbrev pub sums_of : DayTotals → MerchantSums
sums_of t =
    record {
      credits = capped_leg t.credits;
      credit_reversals = capped_leg t.credit_reversals;
      debits = capped_leg t.debits;
      debit_reversals = capped_leg t.debit_reversals;
    }

-- the sums of a merchant, who may have none
abbrev pub sums_at : Option MerchantSums → MerchantSums
sums_at None = sums_of zero_totals
sums_at (Some sums) = sums

-- those of these merchants that have no sums
abbrev pub idle_among : {S : Type 0} → List (List ℕ) → HashMap (List ℕ) MerchantSums S
    → List (List ℕ)
idle_among names by_merchant =
    filter (λ name. not (is_some (get merchant_eq by_merchant name))) names

-- each merchant's sums are those of its postings among these
abbrev pub AreSumsOf : {S : Type 0} → List (ℕ × Posting) → HashMap (List ℕ) MerchantSums S → Type 0
AreSumsOf rows by_merchant =
    (m : List ℕ) → sums_at (get merchant_eq by_merchant m)
    ≡ sums_of (totals_of (map (λ row. (row.1.leg, row.1.amount)) (postings_of m rows)))

-- a posting is counted, or memory ran out
abbrev pub AddsOne : Sums → ℕ × Posting → Bool → Sums → Type 0
AddsOne old row true new =
    ((rows : List (ℕ × Posting)) → AreSumsOf rows old.by_merchant
    → AreSumsOf (rows ++ row ∷ []) new.by_merchant) × (new.is_short ≡ old.is_short)
AddsOne old row false new = new.is_short ≡ true

-- each merchant's sums are those of its totals of a day
abbrev pub AddUpTo : {S : Type 0} → Tables → ℕ → HashMap (List ℕ) MerchantSums S → Type 0
AddUpTo t day by_merchant =
    (m : List ℕ) → sums_at (get merchant_eq by_merchant m) ≡ sums_of (totals_at t m day)
