-- Sums of many totals, and what is owed by them.
use Rattle.std.specs.Prelude.{ℕ, ◌+◌, ◌-◌, ◌≤◌, ◌^◌, min, List, [], ◌∷◌, ℤ, pos, ◌-ℤ◌}
use Rattle.day_totals.specs.declared.leg_total.LegTotal.{LegTotal}
use Rattle.day_totals.specs.declared.leg.Leg.{Leg}
use Rattle.day_totals.specs.declared.leg.Leg.TheVariants.{Credit, CreditReversal, Debit}
use Rattle.day_totals.specs.declared.leg.Leg.TheVariants.{DebitReversal}
use Rattle.day_totals.specs.Totals.{DayTotals, with_amount, zero_totals}

-- the greatest sum that is told; all days of all merchants that a machine holds stay far below it
abbrev pub greatest_sum : ℕ
greatest_sum = 2 ^ 126 - 1

-- a sum, or the greatest where it is more
abbrev pub capped : ℕ → ℕ
capped n = min n greatest_sum

abbrev pub capped_leg : LegTotal → LegTotal
capped_leg total = record { count = capped total.count; amount = capped total.amount }

-- the same of each leg
abbrev pub capped_totals : DayTotals → DayTotals
capped_totals t =
    record {
      credits = capped_leg t.credits;
      credit_reversals = capped_leg t.credit_reversals;
      debits = capped_leg t.debits;
      debit_reversals = capped_leg t.debit_reversals;
    }

abbrev pub both_legs : LegTotal → LegTotal → LegTotal
both_legs a b = record { count = a.count + b.count; amount = a.amount + b.amount }

-- two totals together
abbrev pub both_totals : DayTotals → DayTotals → DayTotals
both_totals a b =
    record {
      credits = both_legs a.credits b.credits;
      credit_reversals = both_legs a.credit_reversals b.credit_reversals;
      debits = both_legs a.debits b.debits;
      debit_reversals = both_legs a.debit_reversals b.debit_reversals;
    }

-- all of these together
abbrev pub all_totals : List DayTotals → DayTotals
all_totals [] = zero_totals
all_totals (t ∷ ts) = both_totals t (all_totals ts)

-- one posting more of a leg
abbrev pub capped_amount : LegTotal → ℕ → LegTotal
capped_amount total amount = capped_leg (with_amount total amount)

abbrev pub capped_posting : DayTotals → Leg → ℕ → DayTotals
capped_posting t Credit amount = record t { credits = capped_amount t.credits amount }
capped_posting t CreditReversal amount =
    record t { credit_reversals = capped_amount t.credit_reversals amount }
capped_posting t Debit amount = record t { debits = capped_amount t.debits amount }
capped_posting t DebitReversal amount =
    record t { debit_reversals = capped_amount t.debit_reversals amount }

-- the sums that are told of them
abbrev pub sums_of : List DayTotals → DayTotals
sums_of ts = capped_totals (all_totals ts)

-- What the acquirer owes a merchant: debits less credits, each less what was reversed, so minus the
-- net. A merchant that owes the acquirer is owed less than nothing.
abbrev pub owed_of : DayTotals → ℤ
owed_of t =
    (pos t.debits.amount -ℤ pos t.debit_reversals.amount)
    -ℤ (pos t.credits.amount -ℤ pos t.credit_reversals.amount)

-- no leg is above the greatest sum
abbrev pub IsLegCapped : LegTotal → Type 0
IsLegCapped total = (total.count ≤ greatest_sum) × (total.amount ≤ greatest_sum)
