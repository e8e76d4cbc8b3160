-- The totals of a day's postings are within its limits, and sixteen digits hold them.
use Rattle.std.proofs.Common.{◌≡◌, ℕ, ◌+◌, ◌*◌, ◌≤◌, List, [], ◌∷◌, length, refl}
use Rattle.std.proofs.Common.{arith, All, ◌↔◌}
use Rattle.std.proofs.lemmas.Int.{ints}
use Rattle.std.proofs.lemmas.List.Elements.{All-head, All-tail}
use Rattle.day_totals.specs.declared.leg.Leg.{Leg}
use Rattle.day_totals.specs.declared.leg.Leg.TheVariants.{Credit, CreditReversal, Debit}
use Rattle.day_totals.specs.declared.leg.Leg.TheVariants.{DebitReversal}
use Rattle.day_totals.specs.Totals.{Posting, totals_of}
use Rattle.day_totals.specs.Totals.{with_leg_amount, total_for, counts_of, amounts_of}
use Rattle.day_totals.specs.Totals.{AreWithinLimits, DayTotals}
use Rattle.day_totals.specs.Totals.{greatest_count, greatest_posting, greatest_amount, FitsDay}
use Rattle.day_totals.specs.Totals.{IsWithinLimits, IsShort}
use Rattle.day_totals.proofs.TotalsOfPostings.{totals_of-cons}

-- each part of totals is within the limits of the whole
pub total_for-within : (t : DayTotals) (leg : Leg) → IsWithinLimits t →
    ((total_for t leg).count ≤ greatest_count)
    × ((total_for t leg).amount ≤ greatest_amount)
total_for-within t Credit h = (omega (arith, h.0), omega (arith, h.1))
total_for-within t CreditReversal h = (omega (arith, h.0), omega (arith, h.1))
total_for-within t Debit h = (omega (arith, h.0), omega (arith, h.1))
total_for-within t DebitReversal h = (omega (arith, h.0), omega (arith, h.1))

-- all postings, and all that they come to
abbrev count_of_all : DayTotals → ℕ
count_of_all t =
    t.credits.count + t.credit_reversals.count + t.debits.count + t.debit_reversals.count

abbrev amount_of_all : DayTotals → ℕ
amount_of_all t =
    t.credits.amount + t.credit_reversals.amount + t.debits.amount + t.debit_reversals.amount

one_more : (t : DayTotals) (leg : Leg) (amount : ℕ) →
    (count_of_all (with_leg_amount t leg amount) ≡ count_of_all t + 1)
    × (amount_of_all (with_leg_amount t leg amount) ≡ amount_of_all t + amount)
one_more t Credit amount = (omega arith, omega arith)
one_more t CreditReversal amount = (omega arith, omega arith)
one_more t Debit amount = (omega arith, omega arith)
one_more t DebitReversal amount = (omega arith, omega arith)

none_at_all : (count_of_all (totals_of []) ≡ 0) × (amount_of_all (totals_of []) ≡ 0)
unfolding totals_of
none_at_all = (refl, refl)

all_postings : (postings : List Posting) → All (λ p. p.1 ≤ greatest_posting) postings
    → (count_of_all (totals_of postings) ≡ length postings)
    × (amount_of_all (totals_of postings) ≤ greatest_posting * length postings)
all_postings [] h = (none_at_all.0, omega (arith, none_at_all.1))
all_postings (p ∷ postings) h =
    let first = All-head (λ p. p.1 ≤ greatest_posting) p postings h in
    let rest = all_postings postings (All-tail (λ p. p.1 ≤ greatest_posting) p postings h) in
    let more = one_more (totals_of postings) p.0 p.1 in
    rw (totals_of-cons postings p.0 p.1)
    (omega (arith, more.0, rest.0), omega (arith, more.1, rest.1, first))

-- the totals of a day's postings are within the limits
pub FitsDay-within : (postings : List Posting) → FitsDay postings →
    IsWithinLimits (totals_of postings)
FitsDay-within postings h =
    let all = all_postings postings h.small in
    (omega (arith, all.0, h.few), omega (arith, all.1, h.few))

-- within the limits sixteen digits are enough
pub IsWithinLimits-short : (t : DayTotals) → IsWithinLimits t → IsShort t
IsWithinLimits-short t h =
    record {
      sums = λ leg. let part = total_for-within t leg h in omega (arith, part.1);
      net =
          omega (arith, ints, h.1);
    }

-- the limits are on the sums of the four counts and of the four amounts
pub AreWithinLimits-whole : (t : DayTotals) →
    AreWithinLimits (counts_of t) (amounts_of t) ↔ IsWithinLimits t
AreWithinLimits-whole t =
    (λ h. (omega (arith, h.0), omega (arith, h.1)), λ h. (omega (arith, h.0), omega (arith, h.1)))
