-- What is kept of a merchant's day.
use Rattle.std.specs.Prelude.{ℕ, ◌+◌, ◌==◌, ◌&&◌, List, filter, Option, Some, None}
use Rattle.std.specs.Str.{bytes_eq}
use Rattle.day_totals.specs.Totals.{zero_totals, with_leg_amount}
use Rattle.day_totals.specs.declared.leg.Leg.{Leg}
use Rattle.acq_core.specs.Tables.{count, postings_of, totals_on}
use Rattle.acq_core.specs.declared.posting.Posting.{Posting}
use Rattle.acq_core.specs.declared.reconciliation.Reconciliation.{Reconciliation}
use Rattle.acq_lists.specs.declared.merchant_day.MerchantDay.{MerchantDay}
use Rattle.acq_lists.specs.declared.day_sums.DaySums.{DaySums}

-- the sums of a day, which may have none
abbrev pub sums_at : Option DaySums → DaySums
sums_at None = record { posted = 0; totals = zero_totals }
sums_at (Some sums) = sums

-- one posting more
abbrev pub with_one : DaySums → Leg → ℕ → DaySums
with_one sums leg amount =
    record { posted = sums.posted + 1; totals = with_leg_amount sums.totals leg amount }

-- the sums of a merchant's day, over all postings
abbrev pub sums_in : List (ℕ × Posting) → MerchantDay → DaySums
sums_in rows k =
    record {
      posted = count (λ row. bytes_eq row.1.merchant k.merchant && (row.1.day == k.day)) rows;
      totals = totals_on (postings_of k.merchant rows) k.day;
    }

-- the reconciliations of a merchant's day
abbrev pub reconciliations_in : List (ℕ × Reconciliation) → MerchantDay → List (ℕ × Reconciliation)
reconciliations_in rows k =
    filter (λ row. bytes_eq row.1.merchant k.merchant && (row.1.day == k.day)) rows

-- the number of the last, 0 where there is none
abbrev pub number_in : Option (ℕ × Reconciliation) → ℕ
number_in None = 0
number_in (Some row) = row.0
