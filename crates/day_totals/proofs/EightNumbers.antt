-- Totals are their eight numbers.
use Rattle.std.proofs.Common.{◌≡◌, ℕ}
use Rattle.day_totals.specs.declared.leg_total.LegTotal.{LegTotal}
use Rattle.day_totals.specs.Totals.{counts_of, amounts_of, DayTotals}
use Rattle.day_totals.proofs.TotalsOfPostings.{same_day}

abbrev leg_total : ℕ → ℕ → LegTotal
leg_total count amount = record { count = count; amount = amount }

same_parts : (a b c d : ℕ) → a ≡ c → b ≡ d → leg_total a b ≡ leg_total c d
same_parts a b c d count amount = rw (count, amount)

same_total : (t other : LegTotal) → t.count ≡ other.count → t.amount ≡ other.amount → t ≡ other
same_total t other count amount = same_parts t.count t.amount other.count other.amount count amount

-- totals with the same eight numbers are the same
pub same_numbers : (t other : DayTotals) → counts_of t ≡ counts_of other →
    amounts_of t ≡ amounts_of other → t ≡ other
same_numbers t other counts amounts =
    let a : t.credits.count ≡ other.credits.count = cc in
    let b : t.credit_reversals.count ≡ other.credit_reversals.count = cc in
    let c : t.debits.count ≡ other.debits.count = cc in
    let d : t.debit_reversals.count ≡ other.debit_reversals.count = cc in
    let e : t.credits.amount ≡ other.credits.amount = cc in
    let f : t.credit_reversals.amount ≡ other.credit_reversals.amount = cc in
    let g : t.debits.amount ≡ other.debits.amount = cc in
    let h : t.debit_reversals.amount ≡ other.debit_reversals.amount = cc in
    same_day _ _ _ _ _ _ _ _ (same_total t.credits other.credits a e)
    (same_total t.credit_reversals other.credit_reversals b f)
    (same_total t.debits other.debits c g)
    (same_total t.debit_reversals other.debit_reversals d h)
