-- What two tests leave of ranges, and what one leaves of ranges with one more.
use Rattle.std.proofs.Common.{◌≡◌, true, false, Bool, ltb, List, [], ◌∷◌, refl, ap, arith, inl}
use Rattle.std.proofs.Common.{inr, sym}
use Rattle.std.specs.Prelude.{not, ◌||◌}
use Rattle.std.specs.List.{Contains, filter, list_all}
use Rattle.std.proofs.lemmas.Bool.{and_from, and_parts, cases_Bool, le-ltb, ltb-false}
use Rattle.card_no.specs.declared.range.Range.{Range}
use Rattle.card_no.specs.Ranges.{are_apart, is_before, is_valid_range, with_range}
use Rattle.card_no.proofs.ElementsThatPass.{all-filter, all-weaker}
use Rattle.card_no.proofs.FirstThatPasses.{contains-later}
use Rattle.card_no.proofs.RangeEnds.{before_lt, ends_in_order}
use Rattle.acq_range_changes.proofs.SameMembers.{at_first}

-- each passes, where each that is contained does
pub all_there : (q : Range → Bool) (xs : List Range) → ((r : Range) → Contains xs r → q r ≡ true)
    → list_all q xs ≡ true
all_there q [] passes = refl
all_there q (x ∷ xs) passes =
    and_from (q x) (list_all q xs) (passes x (at_first x xs))
    (all_there q xs (λ r there. passes r (contains-later x xs r there)))

-- ---- those that pass one test or another

pub dropped_in_turn : (q b : Range → Bool) (xs : List Range) →
    filter (λ r. not (q r || b r)) xs ≡ filter (λ r. not (b r)) (filter (λ r. not (q r)) xs)
dropped_in_turn q b [] = refl
dropped_in_turn q b (x ∷ xs) =
    elim (cases_Bool (q x)) [
      | inl stays ↦ rw stays (dropped_in_turn q b xs)
      | inr goes ↦ elim (cases_Bool (b x)) [
        | inl behind ↦ rw (goes, behind) (dropped_in_turn q b xs)
        | inr near ↦ rw (goes, near) (ap (λ l. x ∷ l) (dropped_in_turn q b xs))
      ]
    ]

pub stay_of_stay_yet : (q b : Range → Bool) (xs : List Range) →
    filter q (filter (λ r. q r || b r) xs) ≡ filter q xs
stay_of_stay_yet q b [] = refl
stay_of_stay_yet q b (x ∷ xs) =
    elim (cases_Bool (q x)) [
      | inl stays ↦ rw (stays, stays) (ap (λ l. x ∷ l) (stay_of_stay_yet q b xs))
      | inr goes ↦ elim (cases_Bool (b x)) [
        | inl behind ↦ rw (goes, behind, goes) (stay_of_stay_yet q b xs)
        | inr near ↦ rw (goes, near) (stay_of_stay_yet q b xs)
      ]
    ]

pub gone_of_stay_yet : (q b : Range → Bool) (xs : List Range) →
    filter (λ r. not (q r)) (filter (λ r. q r || b r) xs)
    ≡ filter b (filter (λ r. not (q r)) xs)
gone_of_stay_yet q b [] = refl
gone_of_stay_yet q b (x ∷ xs) =
    elim (cases_Bool (q x)) [
      | inl stays ↦ rw (stays, stays) (gone_of_stay_yet q b xs)
      | inr goes ↦ elim (cases_Bool (b x)) [
        | inl behind ↦ rw (goes, behind, goes)
            (ap (λ l. x ∷ l) (gone_of_stay_yet q b xs))
        | inr near ↦ rw (goes, near) (gone_of_stay_yet q b xs)
      ]
    ]

-- two tests, in either order
pub filter_both : (p q : Range → Bool) (xs : List Range) →
    filter p (filter q xs) ≡ filter q (filter p xs)
filter_both p q [] = refl
filter_both p q (x ∷ xs) =
    elim (cases_Bool (p x)) [
      | inl passes ↦ elim (cases_Bool (q x)) [
        | inl too ↦ rw (passes, too, passes) (ap (λ l. x ∷ l) (filter_both p q xs))
        | inr fails ↦ rw (passes, fails) (filter_both p q xs)
      ]
      | inr fails ↦ elim (cases_Bool (q x)) [
        | inl passes ↦ rw (fails, passes, fails) (filter_both p q xs)
        | inr too ↦ rw (fails, too) (filter_both p q xs)
      ]
    ]

-- ---- ranges with one more

-- a range goes before those that don't begin below it
abbrev begins_later : Range → Range → Bool
begins_later y s = not (ltb s.low y.low)

with_first : (y : Range) (xs : List Range) → list_all (begins_later y) xs ≡ true →
    with_range xs y ≡ y ∷ xs
with_first y [] later = refl
with_first y (x ∷ xs) later =
    let parts = and_parts (begins_later y x) (list_all (begins_later y) xs) later in
    elim (cases_Bool (ltb x.low y.low)) [
      | inl below ↦ let e : false ≡ true = rw below at parts.0 in absurd cc
      | inr above ↦ rw above refl
    ]

-- those behind a range that doesn't begin below another don't either
later_too : (y x : Range) (xs : List Range) → is_valid_range x ≡ true →
    list_all (is_before x) xs ≡ true → ltb x.low y.low ≡ false →
    list_all (begins_later y) (x ∷ xs) ≡ true
later_too y x xs valid behind above =
    let order = ends_in_order x valid in
    let le = ltb-false _ _ above in
    and_from (begins_later y x) (list_all (begins_later y) xs) (rw above refl)
    (all-weaker (is_before x) (begins_later y) xs
    (λ s one. let lt = before_lt x s one in rw (le-ltb s.low y.low (omega arith)) refl) behind)

pub filter_with : (q : Range → Bool) (xs : List Range) (y : Range) →
    list_all is_valid_range xs ≡ true → are_apart xs ≡ true → q y ≡ true →
    filter q (with_range xs y) ≡ with_range (filter q xs) y
filter_with q [] y valid apart stays = rw stays refl
filter_with q (x ∷ xs) y valid apart stays =
    let valids = and_parts (is_valid_range x) (list_all is_valid_range xs) valid in
    let aparts = and_parts (list_all (is_before x) xs) (are_apart xs) apart in
    let rest = filter_with q xs y valids.1 aparts.1 stays in
    elim (cases_Bool (ltb x.low y.low)) [
      | inl below ↦ elim (cases_Bool (q x)) [
        | inl passes ↦ rw (below, passes, below) (ap (λ l. x ∷ l) rest)
        | inr fails ↦ rw (below, fails) rest
      ]
      | inr above ↦
          let later = later_too y x xs valids.0 aparts.0 above in
          rw (above, stays)
          (sym (with_first y (filter q (x ∷ xs)) (all-filter (begins_later y) q (x ∷ xs) later)))
    ]

pub gone_with : (q : Range → Bool) (xs : List Range) (y : Range) → q y ≡ true →
    filter (λ r. not (q r)) (with_range xs y) ≡ filter (λ r. not (q r)) xs
gone_with q [] y stays = rw stays refl
gone_with q (x ∷ xs) y stays =
    elim (cases_Bool (ltb x.low y.low)) [
      | inl below ↦ elim (cases_Bool (q x)) [
        | inl passes ↦ rw (below, passes) (gone_with q xs y stays)
        | inr fails ↦ rw (below, fails) (ap (λ l. x ∷ l) (gone_with q xs y stays))
      ]
      | inr above ↦ rw (above, stays) refl
    ]
