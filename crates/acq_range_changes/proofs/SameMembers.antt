-- Two lists of ranges with the same ranges are one list.
use Rattle.std.proofs.Common.{◌≡◌, zero, suc, ◌⊎◌, true, Bool, List, [], ◌∷◌, ◌++◌}
use Rattle.std.proofs.Common.{refl, sym, ap, subst, ◌∙◌, arith, inl, inr}
use Rattle.std.specs.List.{Contains, filter, list_all}
use Rattle.std.proofs.lemmas.Bool.{and_parts, cases_Bool}
use Rattle.card_no.specs.declared.range.Range.{Range}
use Rattle.card_no.specs.Ranges.{are_apart, is_before, is_valid_range}
use Rattle.card_no.proofs.ElementsThatPass.{all-contains}
use Rattle.card_no.proofs.FirstThatPasses.{contains-later}
use Rattle.card_no.proofs.RangeEnds.{before_lt, ends_in_order}

-- ---- elements

first_or_later : {X : Type 0} (y : X) (ys : List X) (x : X) → Contains (y ∷ ys) x →
    (y ≡ x) ⊎ Contains ys x
first_or_later y ys x (zero, lt, same) = inl same
first_or_later y ys x (suc k, lt, same) = inr (k, omega arith, same)

pub at_first : {X : Type 0} (x : X) (xs : List X) → Contains (x ∷ xs) x
at_first x xs = (zero, omega arith, refl)

-- a list, before and behind one of its elements
pub parted : {X : Type 0} (xs : List X) (x : X) → Contains xs x →
    (before : List X) × (behind : List X) × (xs ≡ before ++ x ∷ behind)
parted [] x (k, lt, same) = absurd (omega arith)
parted {X} (y ∷ ys) x (zero, lt, same) = ([], ys, ap (λ (z : X). z ∷ ys) same)
parted {X} (y ∷ ys) x (suc k, lt, same) =
    let rest = parted ys x (k, omega arith, same) in
    (y ∷ rest.0, rest.1, ap (λ (l : List X). y ∷ l) rest.2)

pub filter_has : {X : Type 0} (q : X → Bool) (xs : List X) (x : X) → Contains xs x → q x ≡ true →
    Contains (filter q xs) x
filter_has q [] x (k, lt, same) passes = absurd (omega arith)
filter_has {X} q (y ∷ ys) x there passes =
    elim (first_or_later y ys x there) [
      | inl same ↦
          let first : q y ≡ true = subst (λ (z : X). q z ≡ true) (sym same) passes in
          rw first (zero, omega arith, same)
      | inr later ↦ elim (cases_Bool (q y)) [
        | inl first ↦ rw first
            (contains-later y (filter q ys) x (filter_has q ys x later passes))
        | inr fails ↦ rw fails (filter_has q ys x later passes)
      ]
    ]

-- what a filter leaves was there, and passes
pub filter_had : {X : Type 0} (q : X → Bool) (xs : List X) (x : X) → Contains (filter q xs) x →
    Contains xs x × (q x ≡ true)
filter_had q [] x (k, lt, same) = absurd (omega arith)
filter_had {X} q (y ∷ ys) x there =
    elim (cases_Bool (q y)) [
      | inl first ↦
          elim (first_or_later y (filter q ys) x (rw first at there)) [
            | inl same ↦
                ((zero, omega arith, same), subst (λ (z : X). q z ≡ true) same first)
            | inr later ↦
                let rest = filter_had q ys x later in
                (contains-later y ys x rest.0, rest.1)
          ]
      | inr fails ↦
          let rest = filter_had q ys x (rw fails at there) in
          (contains-later y ys x rest.0, rest.1)
    ]

-- ---- ranges

-- of two first ranges, each of which the other list has
same_first : (x y : Range) (xs ys : List Range) → is_valid_range x ≡ true →
    is_valid_range y ≡ true → list_all (is_before x) xs ≡ true → list_all (is_before y) ys ≡ true →
    Contains (y ∷ ys) x → Contains (x ∷ xs) y → y ≡ x
same_first x y xs ys x_valid y_valid x_first y_first x_there y_there =
    elim (first_or_later y ys x x_there) [
      | inl same ↦ same
      | inr later ↦ elim (first_or_later x xs y y_there) [
        | inl same ↦ sym same
        | inr after ↦
            let below = before_lt y x (all-contains (is_before y) ys x y_first later) in
            let above = before_lt x y (all-contains (is_before x) xs y x_first after) in
            let x_order = ends_in_order x x_valid in
            let y_order = ends_in_order y y_valid in
            absurd (omega arith)
      ]
    ]

-- a range behind the first isn't the first
later_too : (x : Range) (xs ys : List Range) → is_valid_range x ≡ true →
    list_all (is_before x) xs ≡ true →
    (r : Range) → Contains xs r → Contains (x ∷ ys) r → Contains ys r
later_too x xs ys valid first r there either =
    elim (first_or_later x ys r either) [
      | inl same ↦
          let lt = before_lt x r (all-contains (is_before x) xs r first there) in
          let order = ends_in_order x valid in
          let low : x.low ≡ r.low = ap (λ (z : Range). z.low) same in
          absurd (omega (arith, lt, order, low))
      | inr later ↦ later
    ]

pub same_ranges : (xs ys : List Range) → list_all is_valid_range xs ≡ true →
    are_apart xs ≡ true → list_all is_valid_range ys ≡ true → are_apart ys ≡ true →
    ((r : Range) → Contains xs r → Contains ys r) → ((r : Range) → Contains ys r → Contains xs r)
    → xs ≡ ys
same_ranges [] [] xv xa yv ya to from = refl
same_ranges [] (y ∷ ys) xv xa yv ya to from =
    let there = from y (at_first y ys) in absurd (let lt = there.1 in omega arith)
same_ranges (x ∷ xs) [] xv xa yv ya to from =
    let there = to x (at_first x xs) in absurd (let lt = there.1 in omega arith)
same_ranges (x ∷ xs) (y ∷ ys) xv xa yv ya to from =
    let xvs = and_parts (is_valid_range x) (list_all is_valid_range xs) xv in
    let yvs = and_parts (is_valid_range y) (list_all is_valid_range ys) yv in
    let xas = and_parts (list_all (is_before x) xs) (are_apart xs) xa in
    let yas = and_parts (list_all (is_before y) ys) (are_apart ys) ya in
    let same : y ≡ x = same_first x y xs ys xvs.0 yvs.0 xas.0 yas.0 (to x (at_first x xs))
    (from y (at_first y ys)) in
    let rest : xs ≡ ys = same_ranges xs ys xvs.1 xas.1 yvs.1 yas.1
    (λ r there. later_too x xs ys xvs.0 xas.0 r there
    (subst (λ (z : Range). Contains (z ∷ ys) r) same (to r (contains-later x xs r there))))
    (λ r there. later_too y ys xs yvs.0 yas.0 r there
    (subst (λ (z : Range). Contains (z ∷ xs) r) (sym same) (from r (contains-later y ys r there))))
    in
    ap (λ (z : Range). z ∷ xs) (sym same) ∙ ap (λ (l : List Range). y ∷ l) rest
