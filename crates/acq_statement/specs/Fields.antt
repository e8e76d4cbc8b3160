-- Fields of the records that hold totals.
use Rattle.std.specs.Prelude.{ℕ, List, [], ◌∷◌, ◌++◌, ℤ, pos, ◌-ℤ◌}
use Rattle.std.specs.Fmt.{decimal, signed_decimal}
use Rattle.day_totals.specs.declared.leg_total.LegTotal.{LegTotal}
use Rattle.day_totals.specs.Totals.{DayTotals}
use Rattle.day_totals.specs.declared.claimed.Claimed.{Claimed}
use Rattle.acq_statement.specs.ClaimTotals.{claim_totals}
use Rattle.acq_statement.specs.Sums.{owed_of}

-- a leg's count and amount
abbrev pub leg_fields : LegTotal → List (List ℕ)
leg_fields total = decimal total.count ∷ decimal total.amount ∷ []

-- the four legs, and what is owed to the merchant
abbrev pub figures_fields : DayTotals → ℤ → List (List ℕ)
figures_fields t owed =
    leg_fields t.credits ++ leg_fields t.credit_reversals ++ leg_fields t.debits
    ++ leg_fields t.debit_reversals ++ signed_decimal owed ∷ []

-- the same where what is owed follows from the legs
abbrev pub totals_fields : DayTotals → List (List ℕ)
totals_fields t = figures_fields t (owed_of t)

-- the net is told as it was claimed, whatever the totals are
abbrev pub claim_fields : Claimed → List (List ℕ)
claim_fields c = figures_fields (claim_totals c) (pos 0 -ℤ c.net)
