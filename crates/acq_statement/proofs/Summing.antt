-- Sums, one after another.
use Rattle.std.proofs.Common.{◌≡◌, ℕ, ◌+◌, ◌<◌, min, List, [], ◌∷◌, ◌++◌, sym, ap, ◌∙◌}
use Rattle.std.proofs.Common.{arith, add-one, append_assoc, append-nil, Bool, true, false, cond}
use Rattle.std.proofs.Common.{length, take, map, filter, slice_index_or}
use Rattle.std.proofs.Math.Seq.{take-suc}
use Rattle.std.proofs.lemmas.List.Elements.{filter-append}
use Rattle.std.proofs.lemmas.Grind.{flat_map-append}
use Rattle.std.proofs.lemmas.List.{map-append}
use Rattle.std.specs.List.{flat_map}
use Rattle.day_totals.specs.declared.leg_total.LegTotal.{LegTotal}
use Rattle.day_totals.specs.Totals.{DayTotals, with_amount, zero_totals}
use Rattle.acq_statement.specs.Sums.{all_totals, both_legs, both_totals, capped_amount, capped_leg}
use Rattle.acq_statement.specs.Sums.{capped_totals, greatest_sum, sums_of}

-- a capped sum takes on what the sum would
capped_more : (g a b : ℕ) → min (min a g + b) g ≡ min (a + b) g
capped_more g a b = omega arith

capped_leg_more : (a b : LegTotal) →
    capped_leg (both_legs (capped_leg a) b) ≡ capped_leg (both_legs a b)
capped_leg_more a b =
    let count = capped_more greatest_sum a.count b.count in
    let amount = capped_more greatest_sum a.amount b.amount in
    λ i. record { count = count i; amount = amount i }

capped_totals_more : (a b : DayTotals) →
    capped_totals (both_totals (capped_totals a) b) ≡ capped_totals (both_totals a b)
capped_totals_more a b =
    let credits = capped_leg_more a.credits b.credits in
    let credit_reversals = capped_leg_more a.credit_reversals b.credit_reversals in
    let debits = capped_leg_more a.debits b.debits in
    let debit_reversals = capped_leg_more a.debit_reversals b.debit_reversals in
    λ i. record {
      credits = credits i;
      credit_reversals = credit_reversals i;
      debits = debits i;
      debit_reversals = debit_reversals i;
    }

both_legs_regroup : (a b c : LegTotal) → both_legs (both_legs a b) c ≡ both_legs a (both_legs b c)
both_legs_regroup a b c =
    let count : (a.count + b.count) + c.count ≡ a.count + (b.count + c.count) = omega arith in
    let amount : (a.amount + b.amount) + c.amount ≡ a.amount + (b.amount + c.amount) =
    omega arith in
    λ i. record { count = count i; amount = amount i }

both_regroup : (a b c : DayTotals) →
    both_totals (both_totals a b) c ≡ both_totals a (both_totals b c)
both_regroup a b c =
    let credits = both_legs_regroup a.credits b.credits c.credits in
    let credit_reversals =
    both_legs_regroup a.credit_reversals b.credit_reversals c.credit_reversals in
    let debits = both_legs_regroup a.debits b.debits c.debits in
    let debit_reversals = both_legs_regroup a.debit_reversals b.debit_reversals c.debit_reversals in
    λ i. record {
      credits = credits i;
      credit_reversals = credit_reversals i;
      debits = debits i;
      debit_reversals = debit_reversals i;
    }

none_and_leg : (a : LegTotal) → both_legs a (record { count = 0; amount = 0 }) ≡ a
none_and_leg a =
    let count : a.count + 0 ≡ a.count = omega arith in
    let amount : a.amount + 0 ≡ a.amount = omega arith in
    λ i. record { count = count i; amount = amount i }

and_none : (a : DayTotals) → both_totals a zero_totals ≡ a
and_none a =
    let credits = none_and_leg a.credits in
    let credit_reversals = none_and_leg a.credit_reversals in
    let debits = none_and_leg a.debits in
    let debit_reversals = none_and_leg a.debit_reversals in
    λ i. record {
      credits = credits i;
      credit_reversals = credit_reversals i;
      debits = debits i;
      debit_reversals = debit_reversals i;
    }

none_first_leg : (a : LegTotal) → both_legs (record { count = 0; amount = 0 }) a ≡ a
none_first_leg a =
    let count : 0 + a.count ≡ a.count = omega arith in
    let amount : 0 + a.amount ≡ a.amount = omega arith in
    λ i. record { count = count i; amount = amount i }

none_first : (a : DayTotals) → both_totals zero_totals a ≡ a
none_first a =
    let credits = none_first_leg a.credits in
    let credit_reversals = none_first_leg a.credit_reversals in
    let debits = none_first_leg a.debits in
    let debit_reversals = none_first_leg a.debit_reversals in
    λ i. record {
      credits = credits i;
      credit_reversals = credit_reversals i;
      debits = debits i;
      debit_reversals = debit_reversals i;
    }

-- one more at the end
all_more : (ts : List DayTotals) (t : DayTotals) →
    all_totals (ts ++ t ∷ []) ≡ both_totals (all_totals ts) t
all_more [] t = and_none t ∙ sym (none_first t)
all_more (x ∷ xs) t =
    ap (both_totals x) (all_more xs t) ∙ sym (both_regroup x (all_totals xs) t)

pub sums_more : (ts : List DayTotals) (t : DayTotals) (before : DayTotals) → before ≡ sums_of ts →
    capped_totals (both_totals before t) ≡ sums_of (ts ++ t ∷ [])
sums_more ts t before is =
    ap (λ s. capped_totals (both_totals s t)) is
    ∙ (capped_totals_more (all_totals ts) t ∙ ap capped_totals (sym (all_more ts t)))

-- ---- days and merchants, as far as a loop has come

module _ {X : Type 0} (xs : List X) (i : ℕ) (x : X) (within : i < length xs)
    (is : x ≡ slice_index_or xs i x) where
  pub take_next : take (i + 1) xs ≡ take i xs ++ x ∷ []
  take_next =
      rw (add-one, take-suc xs i x within) (ap (λ one. take i xs ++ one ∷ []) (sym is))

  -- what is made of each, behind others
  pub map_next : {Y : Type 0} (f : X → Y) (before : List Y) →
      (before ++ map f (take i xs)) ++ f x ∷ [] ≡ before ++ map f (take (i + 1) xs)
  map_next f before =
      append_assoc before (map f (take i xs)) (f x ∷ [])
      ∙ ap (λ l. before ++ l)
      (sym (map-append f (take i xs) (x ∷ [])) ∙ ap (map f) (sym take_next))

  -- what is made of those that pass a test
  pub passed_next : {Y : Type 0} (p : X → Bool) (f : X → List Y) → p x ≡ true →
      flat_map f (filter p (take i xs)) ++ f x ≡ flat_map f (filter p (take (i + 1) xs))
  passed_next p f passes =
      sym (ap (λ l. flat_map f (filter p l)) take_next
      ∙ (ap (flat_map f) (filter-append p (take i xs) (x ∷ [])
      ∙ ap (λ b. filter p (take i xs) ++ cond b (x ∷ []) []) passes)
      ∙ (flat_map-append f (filter p (take i xs)) (x ∷ [])
      ∙ ap (λ l. flat_map f (filter p (take i xs)) ++ l) (append-nil (f x)))))

  pub failed_next : (p : X → Bool) → p x ≡ false →
      filter p (take i xs) ≡ filter p (take (i + 1) xs)
  failed_next p fails =
      sym (ap (filter p) take_next
      ∙ (filter-append p (take i xs) (x ∷ [])
      ∙ (ap (λ b. filter p (take i xs) ++ cond b (x ∷ []) []) fails
      ∙ append-nil (filter p (take i xs)))))

-- one posting more of a capped leg
pub capped_amount_more : (total : LegTotal) (amount : ℕ) →
    capped_amount (capped_leg total) amount ≡ capped_leg (with_amount total amount)
capped_amount_more total amount =
    capped_leg_more total (record { count = 1; amount = amount })
