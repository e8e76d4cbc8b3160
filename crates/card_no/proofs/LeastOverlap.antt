-- The first range that overlaps one is that of least low.
use Rattle.std.proofs.Common.{◌≡◌, zero, suc, ◌≤◌, true}
use Rattle.std.proofs.Common.{List, [], ◌∷◌, Some, sym, ap, subst, ◌∙◌}
use Rattle.std.proofs.Common.{arith, inl, inr}
use Rattle.std.specs.List.{list_all, find, Contains}
use Rattle.std.proofs.lemmas.Bool.{and_parts, cases_Bool, ltb-true}
use Rattle.card_no.specs.declared.range.Range.{Range}
use Rattle.card_no.specs.Ranges.{is_valid_range, overlaps, is_before, are_apart, are_ranges}
use Rattle.card_no.specs.Ranges.{overlapped_by, IsLeastOverlap}
use Rattle.card_no.proofs.ElementsThatPass.{all-contains}
use Rattle.card_no.proofs.FirstThatPasses.{find-contains, find-passes}
use Rattle.card_no.proofs.RangeEnds.{ends_in_order}

least : (rs : List Range) (r s : Range) → list_all is_valid_range rs ≡ true → are_apart rs ≡ true →
    find (overlaps r) rs
    ≡ Some s
    → (t : Range) → Contains rs t → overlaps r t ≡ true → s.low ≤ t.low
least [] r s v a is t (k, lt, e) o = absurd (omega arith)
least (x ∷ rs) r s v a is t (zero, lt, e) o =
    let here : overlaps r x ≡ true = subst (λ (y : Range). overlaps r y ≡ true) (sym e) o in
    let first : Some x ≡ Some s = rw here at is in
    let same : x ≡ s = cc in
    let low : s.low ≡ t.low = ap (λ (y : Range). y.low) (sym same ∙ e) in
    omega (arith, low)
least (x ∷ rs) r s v a is t (suc j, lt, e) o =
    let valid = and_parts (is_valid_range x) (list_all is_valid_range rs) v in
    let apart = and_parts (list_all (is_before x) rs) (are_apart rs) a in
    elim (cases_Bool (overlaps r x)) [
      | inl here ↦
          let first : Some x ≡ Some s = rw here at is in
          let same : x ≡ s = cc in
          let low : s.low ≡ x.low = ap (λ (y : Range). y.low) (sym same) in
          let before = ltb-true x.high t.low
          (all-contains (is_before x) rs t apart.0 (j, omega arith, e)) in
          let order = ends_in_order x valid.0 in
          omega (arith, low, before, order)
      | inr past ↦ least rs r s valid.1 apart.1 (rw past at is) t (j, omega arith, e) o
    ]

pub least-overlap : (rs : List Range) (r s : Range) → are_ranges rs ≡ true →
    overlapped_by r rs ≡ Some s
    → IsLeastOverlap rs r s
least-overlap rs r s h is =
    let parts = and_parts (list_all is_valid_range rs) (are_apart rs) h in (
      find-contains (overlaps r) rs s is,
      find-passes (overlaps r) rs s is,
      λ t there o. least rs r s parts.0 parts.1 is
          t there o,
    )
