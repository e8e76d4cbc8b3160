-- What one posting more does to the totals of postings.
use Rattle.std.proofs.Common.{◌≡◌, ℕ, ◌+◌, Bool, cond, List, [], ◌∷◌, ◌++◌, length, map, filter}
use Rattle.std.proofs.Common.{sum, refl}
use Rattle.std.proofs.Common.{ap, ◌∙◌, arith, length-append, append-nil, true, false, suc, sym}
use Rattle.std.proofs.lemmas.List.{map-append}
use Rattle.std.proofs.lemmas.List.Elements.{filter-append}
use Rattle.std.proofs.lemmas.List.Sums.{sum_by-append, sum_by-cons}
use Rattle.day_totals.specs.declared.leg.Leg.{Leg}
use Rattle.day_totals.specs.declared.leg.Leg.TheVariants.{Credit, CreditReversal, Debit}
use Rattle.day_totals.specs.declared.leg.Leg.TheVariants.{DebitReversal}
use Rattle.day_totals.specs.declared.leg_total.LegTotal.{LegTotal}
use Rattle.day_totals.specs.Totals.{Posting, same_leg, leg_amounts, leg_total_of, with_amount}
use Rattle.day_totals.specs.Totals.{totals_of}
use Rattle.day_totals.specs.Totals.{with_leg_amount, DayTotals}

-- the total of a leg's amounts
abbrev total : List ℕ → LegTotal
total amounts = record { count = length amounts; amount = sum amounts }

total-push : (amounts : List ℕ) (amount : ℕ) →
    total (amounts ++ amount ∷ []) ≡ with_amount (total amounts) amount
total-push amounts amount =
    let one : 0 + amount ≡ amount = omega arith in rw (length-append, sum_by-append, one)

total-cons : (amounts : List ℕ) (amount : ℕ) →
    total (amount ∷ amounts) ≡ with_amount (total amounts) amount
total-cons amounts amount =
    let more : suc (length amounts) ≡ length amounts + 1 = omega arith in
    let first = sum_by-cons (λ x. x) amount amounts in
    let sums : sum (amount ∷ amounts) ≡ sum amounts + amount = omega (arith, first) in
    rw (more, sums)

-- with one amount more, or the same
one_or_none : (b : Bool) (amounts : List ℕ) (leg : Leg) (amount : ℕ)
    → total (amounts ++ map (λ (p : Posting). p.1) (cond b ((leg, amount) ∷ []) []))
    ≡ cond b (with_amount (total amounts) amount) (total amounts)
one_or_none true amounts leg amount = total-push amounts amount
one_or_none false amounts leg amount = rw append-nil

first_or_none : (b : Bool) (leg : Leg) (amount : ℕ) (postings : List Posting)
    → total (map (λ (p : Posting). p.1) (cond b ((leg, amount) ∷ postings) postings))
    ≡ cond b (with_amount (total (map (λ (p : Posting). p.1) postings)) amount)
    (total (map (λ (p : Posting). p.1) postings))
first_or_none true leg amount postings = total-cons (map (λ (p : Posting). p.1) postings) amount
first_or_none false leg amount postings = refl

leg_amounts-push : (leg : Leg) (postings : List Posting) (p : Posting) →
    leg_amounts leg (postings ++ p ∷ [])
    ≡ leg_amounts leg postings ++ leg_amounts leg (p ∷ [])
leg_amounts-push leg postings p = rw (filter-append, map-append) refl

-- the leg's total with a posting more at the end, or at the front
leg_total_of-push : (leg other : Leg) (postings : List Posting) (amount : ℕ)
    → leg_total_of leg (postings ++ (other, amount) ∷ [])
    ≡ cond (same_leg leg other) (with_amount (leg_total_of leg postings) amount)
    (leg_total_of leg postings)
leg_total_of-push leg other postings amount =
    ap total (leg_amounts-push leg postings (other, amount))
    ∙ one_or_none (same_leg leg other) (leg_amounts leg postings) other amount

leg_total_of-cons : (leg other : Leg) (postings : List Posting) (amount : ℕ)
    → leg_total_of leg ((other, amount) ∷ postings) ≡ cond (same_leg leg other)
    (with_amount (leg_total_of leg postings) amount) (leg_total_of leg postings)
leg_total_of-cons leg other postings amount =
    first_or_none (same_leg leg other) other amount (filter (λ p. same_leg leg p.0) postings)

abbrev pub day : LegTotal → LegTotal → LegTotal → LegTotal → DayTotals
day a b c d = record { credits = a; credit_reversals = b; debits = c; debit_reversals = d }

pub same_day : (a b c d e f g h : LegTotal) → a ≡ e → b ≡ f → c ≡ g → d ≡ h →
    day a b c d ≡ day e f g h
same_day a b c d e f g h p q r s = rw (p, q, r, s)

-- totals with one posting more
pub totals_of-push : (postings : List Posting) (leg : Leg) (amount : ℕ) →
    totals_of (postings ++ (leg, amount) ∷ [])
    ≡ with_leg_amount (totals_of postings) leg amount
unfolding totals_of
totals_of-push ps Credit n =
    same_day _ _ _ _ _ _ _ _ (leg_total_of-push Credit Credit ps n)
    (leg_total_of-push CreditReversal Credit ps n)
    (leg_total_of-push Debit Credit ps n) (leg_total_of-push DebitReversal Credit ps n)
totals_of-push ps CreditReversal n =
    same_day _ _ _ _ _ _ _ _ (leg_total_of-push Credit CreditReversal ps n)
    (leg_total_of-push CreditReversal CreditReversal ps n)
    (leg_total_of-push Debit CreditReversal ps n)
    (leg_total_of-push DebitReversal CreditReversal ps n)
totals_of-push ps Debit n =
    same_day _ _ _ _ _ _ _ _ (leg_total_of-push Credit Debit ps n)
    (leg_total_of-push CreditReversal Debit ps n)
    (leg_total_of-push Debit Debit ps n) (leg_total_of-push DebitReversal Debit ps n)
totals_of-push ps DebitReversal n =
    same_day _ _ _ _ _ _ _ _ (leg_total_of-push Credit DebitReversal ps n)
    (leg_total_of-push CreditReversal DebitReversal ps n)
    (leg_total_of-push Debit DebitReversal ps n)
    (leg_total_of-push DebitReversal DebitReversal ps n)

pub totals_of-cons : (postings : List Posting) (leg : Leg) (amount : ℕ) →
    totals_of ((leg, amount) ∷ postings)
    ≡ with_leg_amount (totals_of postings) leg amount
unfolding totals_of
totals_of-cons ps Credit n =
    same_day _ _ _ _ _ _ _ _ (leg_total_of-cons Credit Credit ps n)
    (leg_total_of-cons CreditReversal Credit ps n)
    (leg_total_of-cons Debit Credit ps n) (leg_total_of-cons DebitReversal Credit ps n)
totals_of-cons ps CreditReversal n =
    same_day _ _ _ _ _ _ _ _ (leg_total_of-cons Credit CreditReversal ps n)
    (leg_total_of-cons CreditReversal CreditReversal ps n)
    (leg_total_of-cons Debit CreditReversal ps n)
    (leg_total_of-cons DebitReversal CreditReversal ps n)
totals_of-cons ps Debit n =
    same_day _ _ _ _ _ _ _ _ (leg_total_of-cons Credit Debit ps n)
    (leg_total_of-cons CreditReversal Debit ps n)
    (leg_total_of-cons Debit Debit ps n) (leg_total_of-cons DebitReversal Debit ps n)
totals_of-cons ps DebitReversal n =
    same_day _ _ _ _ _ _ _ _ (leg_total_of-cons Credit DebitReversal ps n)
    (leg_total_of-cons CreditReversal DebitReversal ps n)
    (leg_total_of-cons Debit DebitReversal ps n)
    (leg_total_of-cons DebitReversal DebitReversal ps n)

-- the same of totals that were changed so
pub add-sums : (old new : DayTotals) (postings : List Posting) (leg : Leg) (amount : ℕ) → new
    ≡ with_leg_amount old leg amount → old ≡ totals_of postings →
    new ≡ totals_of (postings ++ (leg, amount) ∷ [])
add-sums old new postings leg amount value e =
    value ∙ ap (λ t. with_leg_amount t leg amount) e ∙ sym (totals_of-push postings leg amount)
