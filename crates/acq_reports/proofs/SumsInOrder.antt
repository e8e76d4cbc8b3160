-- Sums by leg don't depend on the order of the postings.
use Rattle.std.proofs.Common.{◌≡◌, ℕ, ◌+◌, List, [], ◌∷◌, Bool, true, false, cond, length, map}
use Rattle.std.proofs.Common.{filter, refl, sym, ap, ◌∙◌, arith}
use Rattle.std.specs.Prelude.{◌==◌, ◌&&◌, sum}
use Rattle.std.proofs.lemmas.List.Elements.{filter_agree}
use Rattle.std.proofs.lemmas.List.Sums.{sum_by-cons}
use Rattle.std.specs.Str.{bytes_eq}
use Rattle.day_totals.specs.declared.leg.Leg.{Leg}
use Rattle.day_totals.specs.declared.leg.Leg.TheVariants.{Credit, CreditReversal, Debit}
use Rattle.day_totals.specs.declared.leg.Leg.TheVariants.{DebitReversal}
use Rattle.day_totals.specs.Totals.{same_leg, leg_amounts, leg_total_of, totals_of}
use Rattle.acq_core.specs.declared.posting.Posting.{Posting}
use Rattle.acq_core.specs.Tables.{Tables, postings_of}
use Rattle.acq_book.specs.Lookups.{is_posting_before, postings_at, totals_at}
use Rattle.acq_book.specs.Order.{put_in_order, in_order}

-- ---- what adds up over rows

-- each row adds to it what it adds in front of any others
abbrev Adds : {X : Type 0} → (List X → ℕ) → (X → ℕ) → Type 0
Adds {X} total worth = (x : X) (xs : List X) → total (x ∷ xs) ≡ worth x + total xs

module _ {X : Type 0} (before : X → X → Bool) (total : List X → ℕ) (worth : X → ℕ)
    (adds : Adds total worth) where
  put_adds : (x : X) (ys : List X) → total (put_in_order before x ys) ≡ worth x + total ys
  put_adds x [] = adds x []
  put_adds x (y ∷ ys) =
      let rest = put_adds x ys in
      let lower = adds y (put_in_order before x ys) in
      let upper = adds y ys in
      let front = adds x (y ∷ ys) in
      elim (before y x) as (λ b. total (cond b (y ∷ put_in_order before x ys) (x ∷ y ∷ ys))
      ≡ worth x + total (y ∷ ys)) [
        | true ↦ omega arith
        | false ↦ front
      ]

  -- the same of the rows in order
  pub in_order_adds : (xs : List X) → total (in_order before xs) ≡ total xs
  in_order_adds [] = refl
  in_order_adds (x ∷ xs) =
      let rest = in_order_adds xs in
      let put = put_adds x (in_order before xs) in
      let front = adds x xs in
      omega arith

-- ---- a leg's count and sum

-- leg and amount of a posting
abbrev pub leg_and_amount : ℕ × Posting → Leg × ℕ
leg_and_amount row = (row.1.leg, row.1.amount)

-- the amounts of a leg of the rows that pass a test
abbrev amounts_where : (ℕ × Posting → Bool) → Leg → List (ℕ × Posting) → List ℕ
amounts_where p leg rows = leg_amounts leg (map leg_and_amount (filter p rows))

-- what a row adds to them, if it passes
amounts-cons : (of : List ℕ → ℕ) (worth : ℕ → ℕ) →
    ((n : ℕ) (ns : List ℕ) → of (n ∷ ns) ≡ worth n + of ns) →
    (p : ℕ × Posting → Bool) (leg : Leg) →
    Adds (λ rows. of (amounts_where p leg rows))
    (λ row. cond (p row) (cond (same_leg leg row.1.leg) (worth row.1.amount) 0) 0)
amounts-cons of worth adds p leg row rows =
    elim (p row) as
    (λ b. of (leg_amounts leg
    (map leg_and_amount (cond b (row ∷ filter p rows) (filter p rows))))
    ≡ cond b (cond (same_leg leg row.1.leg) (worth row.1.amount) 0) 0 + of
    (amounts_where p leg rows)) [
      | true ↦
          elim (same_leg leg row.1.leg)
          as (λ c. of (map (λ q. q.1) (cond c
          (leg_and_amount row ∷ filter (λ q. same_leg leg q.0) (map leg_and_amount (filter p rows)))
          (filter (λ q. same_leg leg q.0) (map leg_and_amount (filter p rows)))))
          ≡ cond c (worth row.1.amount) 0 + of (amounts_where p leg rows)) [
            | true ↦ adds row.1.amount (amounts_where p leg rows)
            | false ↦ omega arith
          ]
      | false ↦ omega arith
    ]

-- the leg's totals are those in any order
leg_in_order : (before : ℕ × Posting → ℕ × Posting → Bool) (p : ℕ × Posting → Bool) (leg : Leg)
    (rows : List (ℕ × Posting)) →
    leg_total_of leg (map leg_and_amount (filter p (in_order before rows)))
    ≡ leg_total_of leg (map leg_and_amount (filter p rows))
leg_in_order before p leg rows =
    let counts =
    in_order_adds before (λ l. length (amounts_where p leg l)) _
    (amounts-cons length (λ n. 1) (λ n ns. omega arith) p leg) rows in
    let sums =
    in_order_adds before (λ l. sum (amounts_where p leg l)) _
    (amounts-cons sum (λ n. n) (sum_by-cons (λ n. n)) p leg)
    rows in
    λ i. record { count = counts i; amount = sums i }

totals_in_order : (before : ℕ × Posting → ℕ × Posting → Bool) (p : ℕ × Posting → Bool)
    (rows : List (ℕ × Posting)) →
    totals_of (map leg_and_amount (filter p (in_order before rows)))
    ≡ totals_of (map leg_and_amount (filter p rows))
unfolding totals_of
totals_in_order before p rows =
    let same = λ (leg : Leg). leg_in_order before p leg rows in
    λ i. record {
      credits = same Credit i;
      credit_reversals = same CreditReversal i;
      debits = same Debit i;
      debit_reversals = same DebitReversal i;
    }

-- ---- a merchant's day

-- two filters are one
both_filters : {X : Type 0} (p q : X → Bool) (xs : List X) →
    filter p (filter q xs) ≡ filter (λ x. q x && p x) xs
both_filters p q [] = refl
both_filters p q (x ∷ xs) =
    let rest = both_filters p q xs in
    let all = filter (λ y. q y && p y) xs in
    elim (q x) as
    (λ b. filter p (cond b (x ∷ filter q xs) (filter q xs)) ≡ cond (b && p x) (x ∷ all) all) [
      | true ↦ ap (λ l. cond (p x) (x ∷ l) l) rest
      | false ↦ rest
    ]

-- of which either may come first
filters_swap : {X : Type 0} (p q : X → Bool) (xs : List X) →
    filter p (filter q xs) ≡ filter q (filter p xs)
filters_swap p q xs =
    both_filters p q xs
    ∙ (filter_agree _ _ (λ x. and_swap (q x) (p x)) xs ∙ sym (both_filters q p xs))
  where
    and_swap : (a b : Bool) → (a && b) ≡ (b && a)
    and_swap true true = refl
    and_swap true false = refl
    and_swap false true = refl
    and_swap false false = refl

-- its totals are those of its postings among the day's, in order
pub totals_of_day : (t : Tables) (m : List ℕ) (day : ℕ) →
    totals_of (map leg_and_amount (postings_of m (postings_at t day))) ≡ totals_at t m day
totals_of_day t m day =
    totals_in_order is_posting_before (λ row. bytes_eq row.1.merchant m)
    (filter (λ row. row.1.day == day) t.postings)
    ∙ ap (λ l. totals_of (map leg_and_amount l))
    (filters_swap (λ row. bytes_eq row.1.merchant m) (λ row. row.1.day == day) t.postings)
