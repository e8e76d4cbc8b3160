-- What reversals amount to never exceeds what their originals do, where postings are conserved.
use Rattle.std.proofs.Common.{◌≡◌, ℕ, ◌+◌, ◌≤◌, List, [], ◌∷◌, Bool, true, false, cond, inl, inr}
use Rattle.std.proofs.Common.{refl, sym, ap, ◌∙◌, subst, arith}
use Rattle.std.specs.Prelude.{filter, sum_by, ◌==◌, not}
use Rattle.std.proofs.lemmas.List.Sums.{sum_by-cons}
use Rattle.std.specs.Str.{bytes_eq}
use Rattle.std.proofs.lemmas.Bool.{and_from}
use Rattle.day_totals.specs.declared.leg.Leg.{Leg}
use Rattle.day_totals.specs.declared.leg.Leg.TheVariants.{Credit, CreditReversal, Debit}
use Rattle.day_totals.specs.declared.leg.Leg.TheVariants.{DebitReversal}
use Rattle.acq_core.specs.declared.posting.Posting.{Posting}
use Rattle.acq_core.specs.Changes.{reversal_leg}
use Rattle.acq_core.specs.Tables.{count, new_tables, tables_after}
use Rattle.acq_history.specs.Conservation.{is_reversal_leg, is_posting, IsConserved, amount_posted}
use Rattle.acq_history.specs.Conservation.{NeverExceeds}
use Rattle.acq_soundness.proofs.Members.{In, from_In, to_In}
use Rattle.acq_soundness.proofs.Keys.{bytes_eq_itself, eqb_itself}
use Rattle.acq_history.proofs.PostingsOfRequests.{says_posting}
use Rattle.acq_history.proofs.ConservationStep.{conserved}

-- ---- sums over the postings that pass a test

-- what those that pass amount to
abbrev amount_of : (ℕ × Posting → Bool) → List (ℕ × Posting) → ℕ
amount_of p rows = sum_by (λ row. row.1.amount) (filter p rows)

-- with one row more, which passes or doesn't
abbrev sum_more : Bool → (ℕ × Posting → Bool) → ℕ × Posting → List (ℕ × Posting) → ℕ
sum_more b p row rows = sum_by (λ y. y.1.amount) (cond b (row ∷ filter p rows) (filter p rows))

-- one that passes adds its amount
sum_more-passing : (p : ℕ × Posting → Bool) (row : ℕ × Posting) (rows : List (ℕ × Posting)) →
    sum_more true p row rows ≡ row.1.amount + amount_of p rows
sum_more-passing p row rows = sum_by-cons (λ y. y.1.amount) row (filter p rows)

-- no less than one of them
amount_of-member : (p : ℕ × Posting → Bool) (rows : List (ℕ × Posting)) (x : ℕ × Posting) →
    In x rows → p x ≡ true → x.1.amount ≤ amount_of p rows
amount_of-member p [] x member passes = absurd member
amount_of-member p (row ∷ rows) x (inl is) passes =
    let same = ap (λ y. y.1.amount) is in
    subst (λ b. x.1.amount ≤ sum_more b p row rows) (sym (ap p is ∙ passes))
    (let more = sum_more-passing p row rows in omega arith)
amount_of-member p (row ∷ rows) x (inr later) passes =
    let rest = amount_of-member p rows x later passes in
    elim (p row) as (λ b. x.1.amount ≤ sum_more b p row rows) [
      | true ↦ (let more = sum_more-passing p row rows in
          omega arith)
      | false ↦ rest
    ]

-- nothing where none passes
amount_of-none : (p : ℕ × Posting → Bool) (rows : List (ℕ × Posting)) → count p rows ≡ 0 →
    amount_of p rows ≡ 0
amount_of-none p [] none = refl
amount_of-none p (row ∷ rows) none =
    let rest : count p rows ≡ 0 → amount_of p rows ≡ 0 = amount_of-none p rows in
    let step : (b : Bool) → cond b (1 + count p rows) (count p rows) ≡ 0 → sum_more b p row rows ≡ 0
    = elim [
      | true ↦ (λ no. absurd (omega arith))
      | false ↦ (λ no. rest no)
    ] in
    step (p row) none

-- where at most one passes, no more than what bounds each
amount_of-one : (p : ℕ × Posting → Bool) (rows : List (ℕ × Posting)) (most : ℕ) →
    count p rows ≤ 1 → ((x : ℕ × Posting) → In x rows → p x ≡ true → x.1.amount ≤ most) →
    amount_of p rows ≤ most
amount_of-one p [] most one each = omega arith
amount_of-one p (row ∷ rows) most one each =
    step (p row) refl one (λ few. amount_of-one p rows most few (λ x i. each x (inr i)))
  where
    step : (b : Bool) → p row ≡ b → cond b (1 + count p rows) (count p rows) ≤ 1 →
        (count p rows ≤ 1 → amount_of p rows ≤ most) →
        sum_more b p row rows ≤ most
    step true e few rest =
        let own = each row (inl refl) e in
        let none : count p rows ≡ 0 = omega arith in
        let nothing = amount_of-none p rows none in
        let more = sum_more-passing p row rows in
        omega arith
    step false e few rest = rest few

-- ---- reversals and originals

-- the leg that a leg of reversals reverses is none itself
original_leg : (leg reversal : Leg) → reversal_leg leg ≡ reversal →
    is_reversal_leg reversal ≡ true → is_reversal_leg leg ≡ false
original_leg Credit reversal e is = refl
original_leg Debit reversal e is = refl
original_leg CreditReversal reversal e is =
    let no : false ≡ true = ap is_reversal_leg e ∙ is in absurd (cc)
original_leg DebitReversal reversal e is =
    let no : false ≡ true = ap is_reversal_leg e ∙ is in absurd (cc)

-- where postings are conserved, the one reversal has its original, of no smaller amount
within_originals : (rows : List (ℕ × Posting)) → IsConserved rows → (m : List ℕ) (reference : ℕ) →
    amount_posted m reference true rows ≤ amount_posted m reference false rows
within_originals rows kept m reference =
    amount_of-one (is_posting m reference true) rows (amount_posted m reference false rows)
    (kept.at_most_one m reference true) within
  where
    within : (x : ℕ × Posting) → In x rows → is_posting m reference true x ≡ true →
        x.1.amount ≤ amount_posted m reference false rows
    within x member passes =
        let says = says_posting m reference true x passes in
        let found = kept.matched x (from_In x rows member) says.leg in
        let y = found.0 in
        let of = found.2 in
        let first =
        and_from (bytes_eq y.1.merchant m) (y.1.reference == reference)
        (ap (λ n. bytes_eq n m) (of.merchant ∙ says.merchant) ∙ bytes_eq_itself m)
        (ap (λ n. n == reference) (of.reference ∙ says.reference) ∙ eqb_itself reference) in
        let leg = original_leg y.1.leg x.1.leg of.leg says.leg in
        let stands =
        amount_of-member (is_posting m reference false) rows y (to_In y rows found.1)
        (and_from _ (not (is_reversal_leg y.1.leg)) first (ap not leg)) in
        let less = of.amount in
        omega arith

pub never_exceeds : NeverExceeds
never_exceeds opening es m reference =
    within_originals (tables_after (new_tables opening) es).postings (conserved opening es) m
    reference
