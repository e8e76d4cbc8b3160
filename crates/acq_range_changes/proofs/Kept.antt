-- The ranges of the book that are in the list are those of the list that are in the book.
use Rattle.std.proofs.Common.{◌≡◌, ◌≤◌, true, Bool, eqb, leb, List, [], ◌∷◌}
use Rattle.std.proofs.Common.{Option, Some, None, refl, sym, ap, subst, ◌∙◌, arith, inl, inr}
use Rattle.std.specs.Prelude.{not, ◌&&◌}
use Rattle.std.specs.List.{Contains, filter, find, list_all}
use Rattle.std.specs.Str.{bytes_eq}
use Rattle.std.proofs.lemmas.Bool.{and_from, and_parts, cases_Bool, eq-eqb, eqb-true, false≢true}
use Rattle.std.proofs.lemmas.Bool.{le-leb}
use Rattle.std.proofs.lemmas.Slice.Eq.{bytes_eq-Decides}
use Rattle.card_no.specs.declared.range.Range.{Range}
use Rattle.card_no.specs.Ranges.{are_apart, are_ranges, holds_prefix, is_before}
use Rattle.card_no.specs.Ranges.{is_valid_range}
use Rattle.card_no.proofs.ElementsThatPass.{all-contains, all-filter, all-weaker}
use Rattle.card_no.proofs.FirstThatPasses.{contains-later, find-contains}
use Rattle.card_no.proofs.RangeEnds.{before_lt, ends_in_order, holds_parts}
use Rattle.acq_range_changes.specs.Changes.{is_among, is_same, others, same_range}
use Rattle.acq_range_changes.proofs.Apart.{apart_around, apart_filter, found_behind}
use Rattle.acq_range_changes.proofs.SameMembers.{at_first, filter_had, filter_has, parted}
use Rattle.acq_range_changes.proofs.SameMembers.{same_ranges}

-- ---- the same range

range_is : (a b : Range) → same_range a b ≡ true → a ≡ b
range_is a b same =
    let x = and_parts (eqb a.low b.low && eqb a.high b.high && bytes_eq a.issuer b.issuer)
    (eqb a.hold_days b.hold_days) same in
    let y = and_parts (eqb a.low b.low && eqb a.high b.high) (bytes_eq a.issuer b.issuer) x.0 in
    let z = and_parts (eqb a.low b.low) (eqb a.high b.high) y.0 in
    let low = eqb-true _ _ z.0 in
    let high = eqb-true _ _ z.1 in
    let issuer = (bytes_eq-Decides a.issuer b.issuer).0 y.1 in
    let hold_days = eqb-true _ _ x.1 in
    λ i. record { low = low i; high = high i; issuer = issuer i; hold_days = hold_days i }

same_as_itself : (r : Range) → same_range r r ≡ true
same_as_itself r =
    and_from (eqb r.low r.low && eqb r.high r.high && bytes_eq r.issuer r.issuer)
    (eqb r.hold_days r.hold_days)
    (and_from (eqb r.low r.low && eqb r.high r.high) (bytes_eq r.issuer r.issuer)
    (and_from (eqb r.low r.low) (eqb r.high r.high) (eq-eqb _ _ refl) (eq-eqb _ _ refl))
    ((bytes_eq-Decides r.issuer r.issuer).1 refl))
    (eq-eqb _ _ refl)

found_is : (r : Range) (found : Option Range) → is_same r found ≡ true → found ≡ Some r
found_is r None same = absurd (false≢true same)
found_is r (Some other) same = ap (λ (z : Range). Some z) (sym (range_is r other same))

-- ---- among ranges

pub among_there : (ranges : List Range) (r : Range) → is_among ranges r ≡ true → Contains ranges r
among_there ranges r among = find-contains (holds_prefix r.low) ranges r (found_is r _ among)

not_held_before : (r s : Range) → is_before s r ≡ true → not (holds_prefix r.low s) ≡ true
not_held_before r s before =
    elim (cases_Bool (holds_prefix r.low s)) [
      | inl held ↦
          let end = (holds_parts r.low s held).1 in
          let lt = before_lt s r before in
          absurd (omega arith)
      | inr clear ↦ rw clear refl
    ]

holds_its_low : (r : Range) → r.low ≤ r.high → holds_prefix r.low r ≡ true
holds_its_low r order = and_from (leb r.low r.low) (leb r.low r.high) (le-leb _ _ (omega arith))
    (le-leb _ _ order)

pub there_among : (xs : List Range) (r : Range) → list_all is_valid_range xs ≡ true →
    are_apart xs ≡ true → Contains xs r → is_among xs r ≡ true
there_among xs r valid apart there =
    let order = ends_in_order r (all-contains is_valid_range xs r valid there) in
    let parts = parted xs r there in
    let around = apart_around parts.0 parts.1 r
    (subst (λ (l : List Range). are_apart l ≡ true) parts.2 apart) in
    let fail = all-weaker _ (λ s. not (holds_prefix r.low s)) parts.0
    (λ s before. not_held_before r s before) around.0 in
    ap (λ (l : List Range). is_same r (find (holds_prefix r.low) l)) parts.2
    ∙ ap (λ found. is_same r found)
    (found_behind (holds_prefix r.low) parts.0 parts.1 r fail (holds_its_low r order))
    ∙ same_as_itself r

-- ---- both filters

-- those of some ranges that are among others are those of the others that are among them
pub kept_both : (xs ys : List Range) → are_ranges xs ≡ true → are_ranges ys ≡ true →
    filter (is_among ys) xs ≡ filter (is_among xs) ys
kept_both xs ys x_ranges y_ranges =
    let x = and_parts (list_all is_valid_range xs) (are_apart xs) x_ranges in
    let y = and_parts (list_all is_valid_range ys) (are_apart ys) y_ranges in
    same_ranges (filter (is_among ys) xs) (filter (is_among xs) ys)
    (all-filter is_valid_range (is_among ys) xs x.0) (apart_filter (is_among ys) xs x.1)
    (all-filter is_valid_range (is_among xs) ys y.0) (apart_filter (is_among xs) ys y.1)
    (λ r there.
    let had = filter_had (is_among ys) xs r there in
    filter_has (is_among xs) ys r (among_there ys r had.1) (there_among xs r x.0 x.1 had.0))
    (λ r there.
    let had = filter_had (is_among xs) ys r there in
    filter_has (is_among ys) xs r (among_there xs r had.1) (there_among ys r y.0 y.1 had.0))

-- ---- the list is the book's ranges already

-- none is left where each passes
none_fails : (q : Range → Bool) (xs : List Range) → ((r : Range) → Contains xs r → q r ≡ true) →
    filter (λ r. not (q r)) xs ≡ []
none_fails q [] passes = refl
none_fails q (x ∷ xs) passes =
    rw (passes x (at_first x xs))
    (none_fails q xs (λ r there. passes r (contains-later x xs r there)))

pub no_others : (xs : List Range) → are_ranges xs ≡ true → others xs xs ≡ []
no_others xs ranges =
    let parts = and_parts (list_all is_valid_range xs) (are_apart xs) ranges in
    none_fails (is_among xs) xs (λ r there. there_among xs r parts.0 parts.1 there)
