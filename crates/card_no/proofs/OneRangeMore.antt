-- A list with one more range at its place is a list of ranges.
use Rattle.std.proofs.Common.{◌≡◌, ◌<◌, ◌≤◌, true, false, Bool, ltb, leb, List, [], ◌∷◌}
use Rattle.std.proofs.Common.{None, refl, arith, inl}
use Rattle.std.proofs.Common.{inr}
use Rattle.std.specs.Prelude.{not}
use Rattle.std.specs.List.{list_all, find}
use Rattle.std.proofs.lemmas.Bool.{and_parts, and_from, cases_Bool, ltb-true, ltb-false, lt-ltb}
use Rattle.std.proofs.lemmas.Bool.{leb-false, not-true, and_cases}
use Rattle.card_no.specs.declared.range.Range.{Range}
use Rattle.card_no.proofs.RangeEnds.{ends_in_order, before_lt}
use Rattle.card_no.specs.Ranges.{is_valid_range, overlaps, is_before, are_apart}
use Rattle.card_no.specs.Ranges.{are_ranges, with_range}
use Rattle.card_no.proofs.ElementsThatPass.{all-weaker}
use Rattle.card_no.proofs.FirstThatPasses.{find-none, none-all}

-- two ranges that do not overlap, the first of which does not begin behind the other
apart_by : (a b : Range) → overlaps a b ≡ false → a.low ≤ a.high → b.low ≤ b.high →
    (a.low ≤ b.low → a.high < b.low)
    × (b.low ≤ a.low → b.high < a.low)
apart_by a b h va vb =
    elim (and_cases (leb a.low b.high) (leb b.low a.high) h) [
      | inl above ↦ let lt = leb-false _ _ above in ((λ le. absurd (omega arith)), (λ le. lt))
      | inr below ↦ let lt = leb-false _ _ below in ((λ le. lt), (λ le. absurd (omega arith)))
    ]

all_with : (p : Range → Bool) (rs : List Range) (r : Range) → list_all p rs ≡ true → p r ≡ true
    → list_all p (with_range rs r) ≡ true
all_with p [] r h k = and_from (p r) true k refl
all_with p (s ∷ rs) r h k =
    let parts = and_parts (p s) (list_all p rs) h in
    elim (cases_Bool (ltb s.low r.low)) [
      | inl low ↦ rw low
          (and_from (p s) (list_all p (with_range rs r)) parts.0 (all_with p rs r parts.1 k))
      | inr high ↦ rw high (and_from (p r) (list_all p (s ∷ rs)) k h)
    ]

apart_with : (rs : List Range) (r : Range) → list_all is_valid_range rs ≡ true →
    are_apart rs ≡ true → is_valid_range r
    ≡ true
    → list_all (λ s. not (overlaps r s)) rs ≡ true → are_apart (with_range rs r) ≡ true
apart_with [] r v a vr free = refl
apart_with (s ∷ rs) r v a vr free =
    let valid = and_parts (is_valid_range s) (list_all is_valid_range rs) v in
    let apart = and_parts (list_all (is_before s) rs) (are_apart rs) a in
    let alone = and_parts (not (overlaps r s)) (list_all (λ t. not (overlaps r t)) rs) free in
    let rs-in-order = ends_in_order s valid.0 in
    let r-in-order = ends_in_order r vr in
    let sides = apart_by r s (not-true _ alone.0) r-in-order rs-in-order in
    elim (cases_Bool (ltb s.low r.low)) [
      | inl low ↦
          let below = ltb-true _ _ low in
          let s-first : s.high < r.low = sides.1 (omega arith) in
          rw low (and_from (list_all (is_before s) (with_range rs r)) (are_apart (with_range rs r))
          (all_with (is_before s) rs r apart.0 (lt-ltb _ _ s-first))
          (apart_with rs r valid.1 apart.1 vr alone.1))
      | inr high ↦
          let le = ltb-false _ _ high in
          let r-first : r.high < s.low = sides.0 le in
          let later : list_all (is_before r) rs ≡ true =
          all-weaker (is_before s) (is_before r) rs
          (λ t before. let lt = before_lt s t before in lt-ltb _ _ (omega arith)) apart.0 in
          rw high (and_from (list_all (is_before r) (s ∷ rs)) (are_apart (s ∷ rs))
          (and_from (is_before r s) (list_all (is_before r) rs) (lt-ltb _ _ r-first) later) a)
    ]

pub ranges_with : (rs : List Range) (r : Range) → are_ranges rs ≡ true → is_valid_range r ≡ true →
    find (overlaps r) rs
    ≡ None → are_ranges (with_range rs r) ≡ true
ranges_with rs r h v free =
    let parts = and_parts (list_all is_valid_range rs) (are_apart rs) h in
    and_from (list_all is_valid_range (with_range rs r)) (are_apart (with_range rs r))
    (all_with is_valid_range rs r parts.0 v)
    (apart_with rs r parts.0 parts.1 v (none-all (overlaps r) rs (find-none (overlaps r) rs free)))
