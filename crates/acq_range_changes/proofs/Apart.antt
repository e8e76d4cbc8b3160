-- Lists of ranges round one of their ranges: those before it, the range, and those behind it.
use Rattle.std.proofs.Common.{◌≡◌, zero, ◌≤◌, true, false, Bool, eqb, leb, List}
use Rattle.std.proofs.Common.{[], ◌∷◌, ◌++◌, Some, None, refl, ap, arith, inl, inr}
use Rattle.std.specs.Prelude.{not}
use Rattle.std.specs.List.{filter, find, list_all}
use Rattle.std.proofs.lemmas.Bool.{and_from, and_parts, cases_Bool, eq-eqb, le-leb, le-ltb}
use Rattle.std.proofs.lemmas.Bool.{leb-true, lt-ltb, ne_eqb}
use Rattle.std.proofs.lemmas.List.Elements.{Contains-append_right}
use Rattle.card_no.specs.declared.range.Range.{Range}
use Rattle.card_no.specs.Ranges.{are_apart, between, has_ends, is_before, is_valid_range, overlaps}
use Rattle.card_no.specs.Ranges.{with_range, without_range}
use Rattle.card_no.proofs.ElementsThatPass.{all-contains, all-filter, all-weaker, filter-all}
use Rattle.card_no.proofs.RangeEnds.{before_lt, ends_in_order}

-- each of these ranges ends before one begins
abbrev pub all_before : Range → List Range → Bool
all_before r = list_all (λ s. is_before s r)

-- each of them begins behind it
abbrev pub all_behind : Range → List Range → Bool
all_behind r = list_all (is_before r)

pub apart_around : (xs ys : List Range) (r : Range) → are_apart (xs ++ r ∷ ys) ≡ true →
    (all_before r xs ≡ true) × (all_behind r ys ≡ true)
apart_around [] ys r apart = (refl, (and_parts (all_behind r ys) (are_apart ys) apart).0)
apart_around (x ∷ xs) ys r apart =
    let parts = and_parts (all_behind x (xs ++ r ∷ ys)) (are_apart (xs ++ r ∷ ys)) apart in
    let rest = apart_around xs ys r parts.1 in
    let there = Contains-append_right xs (r ∷ ys) r (zero, omega arith, refl) in (
      and_from (is_before x r) (all_before r xs)
          (all-contains (is_before x) (xs ++ r ∷ ys) r parts.0 there) rest.0,
      rest.1,
    )

pub apart_filter : (q : Range → Bool) (xs : List Range) → are_apart xs ≡ true →
    are_apart (filter q xs) ≡ true
apart_filter q [] apart = refl
apart_filter q (x ∷ xs) apart =
    let parts = and_parts (all_behind x xs) (are_apart xs) apart in
    elim (cases_Bool (q x)) [
      | inl passes ↦ rw passes
          (and_from (all_behind x (filter q xs)) (are_apart (filter q xs))
          (all-filter (is_before x) q xs parts.0) (apart_filter q xs parts.1))
      | inr fails ↦ rw fails (apart_filter q xs parts.1)
    ]

-- the one that passes a test is found, where none before it does
pub found_behind : (q : Range → Bool) (xs ys : List Range) (r : Range) →
    list_all (λ s. not (q s)) xs ≡ true → q r ≡ true → find q (xs ++ r ∷ ys) ≡ Some r
found_behind q [] ys r fail passes = rw passes refl
found_behind q (x ∷ xs) ys r fail passes =
    let parts = and_parts (not (q x)) (list_all (λ s. not (q s)) xs) fail in
    elim (cases_Bool (q x)) [
      | inl here ↦ let e : false ≡ true = rw here at parts.0 in absurd cc
      | inr past ↦ rw past (found_behind q xs ys r parts.1 passes)
    ]

-- none is found, where none passes
pub none_found : (q : Range → Bool) (xs : List Range) → list_all (λ s. not (q s)) xs ≡ true →
    find q xs ≡ None
none_found q [] fail = refl
none_found q (x ∷ xs) fail =
    let parts = and_parts (not (q x)) (list_all (λ s. not (q s)) xs) fail in
    elim (cases_Bool (q x)) [
      | inl here ↦ let e : false ≡ true = rw here at parts.0 in absurd cc
      | inr past ↦ rw past (none_found q xs parts.1)
    ]

-- ---- overlaps

-- a range has no prefix of another
abbrev pub is_clear_of : Range → Range → Bool
is_clear_of r s = not (overlaps (between r.low r.high) s)

-- one that ends before another begins overlaps none of its prefixes
clear_before : (r s : Range) → is_before s r ≡ true →
    not (overlaps (between r.low r.high) s) ≡ true
clear_before r s before =
    elim (cases_Bool (overlaps (between r.low r.high) s)) [
      | inl both ↦
          let end = leb-true _ _ (and_parts (leb r.low s.high) (leb s.low r.high) both).0 in
          let lt = before_lt s r before in
          absurd (omega arith)
      | inr clear ↦ rw clear refl
    ]

pub clear_behind : (r s : Range) → is_before r s ≡ true →
    not (overlaps (between r.low r.high) s) ≡ true
clear_behind r s before =
    elim (cases_Bool (overlaps (between r.low r.high) s)) [
      | inl both ↦
          let end = leb-true _ _ (and_parts (leb r.low s.high) (leb s.low r.high) both).1 in
          let lt = before_lt r s before in
          absurd (omega arith)
      | inr clear ↦ rw clear refl
    ]

pub all_clear_before : (r : Range) (xs : List Range) → all_before r xs ≡ true →
    list_all (λ s. not (overlaps (between r.low r.high) s)) xs ≡ true
all_clear_before r xs before = all-weaker _ _ xs (λ s one. clear_before r s one) before

pub all_clear_behind : (r : Range) (ys : List Range) → all_behind r ys ≡ true →
    list_all (λ s. not (overlaps (between r.low r.high) s)) ys ≡ true
all_clear_behind r ys behind = all-weaker _ _ ys (λ s one. clear_behind r s one) behind

pub overlaps_itself : (r : Range) → r.low ≤ r.high →
    overlaps (between r.low r.high) r ≡ true
overlaps_itself r order = and_from (leb r.low r.high) (leb r.low r.high) (le-leb _ _ order)
    (le-leb _ _ order)

pub has_its_ends : (r : Range) → has_ends r.low r.high r ≡ true
has_its_ends r = and_from (eqb r.low r.low) (eqb r.high r.high) (eq-eqb _ _ refl)
    (eq-eqb _ _ refl)

-- ---- one less, and one more

-- a range that begins elsewhere has other ends
begins_elsewhere : (r s : Range) → (s.low ≡ r.low → ⊥) → not (has_ends r.low r.high s) ≡ true
begins_elsewhere r s other = rw (ne_eqb s.low r.low other) refl

pub without_middle : (xs ys : List Range) (r : Range) → list_all is_valid_range xs ≡ true →
    r.low ≤ r.high → all_before r xs ≡ true → all_behind r ys ≡ true →
    without_range (xs ++ r ∷ ys) r.low r.high ≡ xs ++ ys
without_middle [] ys r valid order before behind =
    rw (has_its_ends r) (filter-all (λ s. not (has_ends r.low r.high s)) ys
    (all-weaker (is_before r) (λ s. not (has_ends r.low r.high s)) ys
    (λ s one.
    let lt = before_lt r s one in
    begins_elsewhere r s (λ same. omega (arith, same, lt, order))) behind))
without_middle (x ∷ xs) ys r valid order before behind =
    let valids = and_parts (is_valid_range x) (list_all is_valid_range xs) valid in
    let befores = and_parts (is_before x r) (all_before r xs) before in
    let x_order = ends_in_order x valids.0 in
    let lt = before_lt x r befores.0 in
    let other = begins_elsewhere r x (λ same. omega (arith, same, lt, x_order)) in
    rw other (ap (λ rest. x ∷ rest) (without_middle xs ys r valids.1 order befores.1 behind))

with_first : (ys : List Range) (r : Range) → r.low ≤ r.high → all_behind r ys ≡ true →
    with_range ys r ≡ r ∷ ys
with_first [] r order behind = refl
with_first (y ∷ ys) r order behind =
    let lt = before_lt r y (and_parts (is_before r y) (all_behind r ys) behind).0 in
    rw (le-ltb y.low r.low (omega arith)) refl

pub with_middle : (xs ys : List Range) (r : Range) → list_all is_valid_range xs ≡ true →
    r.low ≤ r.high → all_before r xs ≡ true → all_behind r ys ≡ true →
    with_range (xs ++ ys) r ≡ xs ++ r ∷ ys
with_middle [] ys r valid order before behind = with_first ys r order behind
with_middle (x ∷ xs) ys r valid order before behind =
    let valids = and_parts (is_valid_range x) (list_all is_valid_range xs) valid in
    let befores = and_parts (is_before x r) (all_before r xs) before in
    let x_order = ends_in_order x valids.0 in
    let lt = before_lt x r befores.0 in
    rw (lt-ltb x.low r.low (omega arith))
    (ap (λ rest. x ∷ rest) (with_middle xs ys r valids.1 order befores.1 behind))
