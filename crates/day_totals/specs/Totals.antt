-- A merchant's day in numbers: how many postings there are of each leg, and the sums of their
-- amounts (own profile).
use Rattle.std.specs.Prelude.{◌≡◌, ℕ, suc, ◌+◌, ◌<◌, ◌≤◌, ◌^◌, ◌&&◌, nat_eq, Bool, true, false}
use Rattle.std.specs.Prelude.{List, [], ◌∷◌, length, map, filter, sum, All, ℤ, pos, negsuc, ◌-ℤ◌}
use Rattle.std.specs.Prelude.{unsigned_abs}
use Rattle.std.specs.Cmp.Lexicographic.{pointwise}
use Rattle.std.specs.Ordering.{int_eq}
use Rattle.day_totals.specs.Digits.{zero_padded}
use Rattle.day_totals.specs.declared.leg.Leg.{Leg}
use Rattle.day_totals.specs.declared.leg.Leg.TheVariants.{Credit, CreditReversal, Debit}
use Rattle.day_totals.specs.declared.leg.Leg.TheVariants.{DebitReversal}
use Rattle.day_totals.specs.declared.leg_total.LegTotal.{LegTotal}
use Rattle.day_totals.specs.declared.claimed.Claimed.{Claimed}

-- a posting, as totals see it: its leg, and its amount in minor units
abbrev pub Posting : Type 0
Posting = Leg × ℕ

-- the legs in the order of their elements
abbrev pub all_legs : List Leg
all_legs = Credit ∷ CreditReversal ∷ Debit ∷ DebitReversal ∷ []

abbrev pub same_leg : Leg → Leg → Bool
same_leg Credit Credit = true
same_leg CreditReversal CreditReversal = true
same_leg Debit Debit = true
same_leg DebitReversal DebitReversal = true
same_leg _ _ = false

-- the amounts of a leg's postings
abbrev pub leg_amounts : Leg → List Posting → List ℕ
leg_amounts leg postings = map (λ p. p.1) (filter (λ p. same_leg leg p.0) postings)

-- how many postings of a leg there are, and the sum of their amounts
abbrev pub leg_total_of : Leg → List Posting → LegTotal
leg_total_of leg postings =
    record { count = length (leg_amounts leg postings); amount = sum (leg_amounts leg postings) }

-- a count and an amount for each leg
pub record DayTotals : Type 0 where
  pub credits : LegTotal
  pub credit_reversals : LegTotal
  pub debits : LegTotal
  pub debit_reversals : LegTotal

-- the totals of these postings
unfoldable pub totals_of : List Posting → DayTotals
totals_of postings =
    record {
      credits = leg_total_of Credit postings;
      credit_reversals = leg_total_of CreditReversal postings;
      debits = leg_total_of Debit postings;
      debit_reversals = leg_total_of DebitReversal postings;
    }

-- those of no postings
abbrev pub zero_totals : DayTotals
zero_totals =
    record {
      credits = record { count = 0; amount = 0 };
      credit_reversals = record { count = 0; amount = 0 };
      debits = record { count = 0; amount = 0 };
      debit_reversals = record { count = 0; amount = 0 };
    }

-- what the totals have for a leg
abbrev pub total_for : DayTotals → Leg → LegTotal
total_for t Credit = t.credits
total_for t CreditReversal = t.credit_reversals
total_for t Debit = t.debits
total_for t DebitReversal = t.debit_reversals

-- the four counts, and the four amounts
abbrev pub counts_of : DayTotals → List ℕ
counts_of t =
    t.credits.count ∷ t.credit_reversals.count ∷ t.debits.count ∷ t.debit_reversals.count ∷ []

abbrev pub amounts_of : DayTotals → List ℕ
amounts_of t =
    t.credits.amount ∷ t.credit_reversals.amount ∷ t.debits.amount ∷ t.debit_reversals.amount ∷ []

-- how many postings a day may have
abbrev pub greatest_count : ℕ
greatest_count = 999_999

-- how many minor units one posting may have
abbrev pub greatest_posting : ℕ
greatest_posting = 9_999_999_999

-- how many minor units such postings may have together
abbrev pub greatest_amount : ℕ
greatest_amount = 9_999_989_999_000_001

-- postings that a day may have
pub record FitsDay (postings : List Posting) : Type 0 where
  pub few : length postings ≤ greatest_count
  pub small : All (λ p. p.1 ≤ greatest_posting) postings

-- totals that such postings may have
abbrev pub IsWithinLimits : DayTotals → Type 0
IsWithinLimits t =
    (t.credits.count + t.credit_reversals.count + t.debits.count + t.debit_reversals.count
    ≤ greatest_count)
    × (t.credits.amount + t.credit_reversals.amount + t.debits.amount + t.debit_reversals.amount
    ≤ greatest_amount)

-- the same of counts and amounts
abbrev pub AreWithinLimits : List ℕ → List ℕ → Type 0
AreWithinLimits counts amounts = (sum counts ≤ greatest_count) × (sum amounts ≤ greatest_amount)

-- one posting more of a leg
abbrev pub with_amount : LegTotal → ℕ → LegTotal
with_amount total amount = record { count = total.count + 1; amount = total.amount + amount }

-- the same of the leg's total
abbrev pub with_leg_amount : DayTotals → Leg → ℕ → DayTotals
with_leg_amount t Credit amount = record t { credits = with_amount t.credits amount }
with_leg_amount t CreditReversal amount =
    record t { credit_reversals = with_amount t.credit_reversals amount }
with_leg_amount t Debit amount = record t { debits = with_amount t.debits amount }
with_leg_amount t DebitReversal amount =
    record t { debit_reversals = with_amount t.debit_reversals amount }

-- credits less debits, each less what was reversed
abbrev pub net_of : DayTotals → ℤ
net_of t =
    (pos t.credits.amount -ℤ pos t.credit_reversals.amount)
    -ℤ (pos t.debits.amount -ℤ pos t.debit_reversals.amount)

-- sixteen digits hold each sum and the net
pub record IsShort (t : DayTotals) : Type 0 where
  pub sums : (leg : Leg) → (total_for t leg).amount < 10 ^ 16
  pub net : unsigned_abs (net_of t) < 10 ^ 16

-- the claimed values are the day's: all eight, and the net as a number
pub record Agrees (claimed : Claimed) (t : DayTotals) : Type 0 where
  pub same_counts : claimed.counts ≡ counts_of t
  pub same_amounts : claimed.amounts ≡ amounts_of t
  pub same_net : claimed.net ≡ net_of t

-- the same as a test
abbrev pub agrees_with : Claimed → DayTotals → Bool
agrees_with claimed t =
    pointwise nat_eq claimed.counts (counts_of t) && pointwise nat_eq claimed.amounts (amounts_of t)
    && int_eq claimed.net (net_of t)

-- element 97: `C` where the net is zero or more, else `D`, and sixteen digits
abbrev pub net_text_of : ℤ → List ℕ
net_text_of (pos n) = 67 ∷ zero_padded 16 n
net_text_of (negsuc n) = 68 ∷ zero_padded 16 (suc n)
