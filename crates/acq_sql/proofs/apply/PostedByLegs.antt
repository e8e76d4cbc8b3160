-- The postings of a day are as many as those of its legs together.
use Rattle.std.proofs.Common.{◌≡◌, ◌==◌, ◌&&◌, ◌+◌, ℕ, Bool, true, false, List, [], ◌∷◌, refl}
use Rattle.std.proofs.Common.{arith}
use Rattle.std.specs.Str.{bytes_eq}
use Rattle.day_totals.specs.declared.leg.Leg.{Leg}
use Rattle.day_totals.specs.declared.leg.Leg.TheVariants.{Credit, CreditReversal, Debit}
use Rattle.day_totals.specs.declared.leg.Leg.TheVariants.{DebitReversal}
use Rattle.day_totals.specs.Totals.{DayTotals, totals_of}
use Rattle.acq_core.specs.declared.posting.Posting.{Posting}
use Rattle.acq_core.specs.Tables.{count, postings_of, totals_on}

abbrev pub all_counts : DayTotals → ℕ
all_counts t = t.credits.count + t.credit_reversals.count + t.debits.count + t.debit_reversals.count

module _ (m : List ℕ) (d : ℕ) where
  abbrev on_day : ℕ × Posting → Bool
  on_day row = bytes_eq row.1.merchant m && (row.1.day == d)

  -- with one row more
  more : (row : ℕ × Posting) (rows : List (ℕ × Posting)) (b c : Bool) (leg : Leg) →
      bytes_eq row.1.merchant m ≡ b
      → (row.1.day == d) ≡ c → row.1.leg ≡ leg →
      all_counts (totals_on (postings_of m rows) d) ≡ count on_day rows
      → all_counts (totals_on (postings_of m (row ∷ rows)) d) ≡ count on_day (row ∷ rows)
  unfolding totals_of
  more row rows true true Credit a b c later = rw (a, b, c) (omega (arith, later))
  more row rows true true CreditReversal a b c later = rw (a, b, c) (omega (arith, later))
  more row rows true true Debit a b c later = rw (a, b, c) (omega (arith, later))
  more row rows true true DebitReversal a b c later = rw (a, b, c) (omega (arith, later))
  more row rows true false leg a b c later = rw (a, b) later
  more row rows false x leg a b c later = rw a later

  pub counted_by_legs : (rows : List (ℕ × Posting))
      → all_counts (totals_on (postings_of m rows) d) ≡ count on_day rows
  unfolding totals_of
  counted_by_legs [] = refl
  counted_by_legs (row ∷ rows) =
      more row rows (bytes_eq row.1.merchant m) (row.1.day == d) row.1.leg refl refl refl
      (counted_by_legs rows)
