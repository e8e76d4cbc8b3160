-- After a range was added or removed, the list is one of ranges, and each prefix has the range that
-- it must.
use Rattle.std.proofs.Common.{◌≡◌, ℕ, ◌≤◌, true, cond, ltb, leb}
use Rattle.std.proofs.Common.{List, [], ◌∷◌, Option, Some, None, refl, sym, ap, ◌∙◌}
use Rattle.std.proofs.Common.{arith, inl, inr}
use Rattle.std.specs.Prelude.{not, option_map}
use Rattle.std.specs.List.{list_all, find}
use Rattle.std.proofs.lemmas.Bool.{and_parts, and_from, cases_Bool, true≢false, ltb-true}
use Rattle.std.proofs.lemmas.Bool.{leb-true, le-leb, lt-leb, not-true}
use Rattle.card_no.specs.declared.range.Range.{Range}
use Rattle.card_no.specs.declared.range_fault.RangeFault.TheVariants.{BadRange, Overlap}
use Rattle.card_no.specs.Ranges.{is_valid_range, holds_prefix, overlaps, is_before, are_apart}
use Rattle.card_no.specs.Ranges.{are_ranges}
use Rattle.card_no.specs.Ranges.{range_of_prefix, overlapped_by, with_range, has_ends, unless_ends}
use Rattle.card_no.specs.Ranges.{without_range}
use Rattle.card_no.specs.RangeChanges.{add_fault}
use Rattle.card_no.proofs.FirstThatPasses.{find-none, none-all}
use Rattle.card_no.proofs.OneRangeMore.{ranges_with}

no_overlap : (o : Option Range) → option_map Overlap o ≡ None → o ≡ None
no_overlap None h = refl
no_overlap (Some r) h = let e : Some (Overlap r) ≡ None = h in absurd cc

free_parts : (rs : List Range) (r : Range) → add_fault rs r ≡ None → (is_valid_range r ≡ true)
    × (overlapped_by r rs ≡ None)
free_parts rs r h =
    elim (cases_Bool (is_valid_range r)) [
      | inl valid ↦ (valid, no_overlap (overlapped_by r rs) (rw valid at h))
      | inr bad ↦ let e : Some BadRange ≡ None = rw bad at h in absurd cc
    ]

pub added-ranges : (rs : List Range) (r : Range) → are_ranges rs ≡ true → add_fault rs r ≡ None
    → are_ranges (with_range rs r) ≡ true
added-ranges rs r h free = let parts = free_parts rs r free in ranges_with rs r h parts.0 parts.1

-- two ranges that hold one prefix overlap
both_hold : (p : ℕ) (r s : Range) → holds_prefix p r ≡ true → holds_prefix p s ≡ true →
    overlaps r s ≡ true
both_hold p r s h g =
    let a = and_parts (leb r.low p) (leb p r.high) h in
    let b = and_parts (leb s.low p) (leb p s.high) g in
    let a0 = leb-true _ _ a.0 in
    let a1 = leb-true _ _ a.1 in
    let b0 = leb-true _ _ b.0 in
    let b1 = leb-true _ _ b.1 in
    and_from (leb r.low s.high) (leb s.low r.high) (le-leb _ _ (omega arith))
    (le-leb _ _ (omega arith))

prefix-with : (rs : List Range) (r : Range) (p : ℕ) → list_all (λ s. not (overlaps r s)) rs ≡ true
    → find (holds_prefix p) (with_range rs r) ≡ cond (holds_prefix p r) (Some r)
    (find (holds_prefix p) rs)
prefix-with [] r p free = refl
prefix-with (s ∷ rs) r p free =
    let alone = and_parts (not (overlaps r s)) (list_all (λ t. not (overlaps r t)) rs) free in
    let apart = not-true _ alone.0 in
    elim (cases_Bool (ltb s.low r.low)) [
      | inl low ↦ elim (cases_Bool (holds_prefix p s)) [
        | inl in-s ↦ elim (cases_Bool (holds_prefix p r)) [
          | inl in-r ↦ absurd (true≢false (sym (both_hold p r s in-r in-s) ∙ apart))
          | inr not-r ↦ rw (low, in-s, not-r) refl
        ]
        | inr not-s ↦ rw (low, not-s) (prefix-with rs r p alone.1)
      ]
      | inr high ↦ rw high refl
    ]

pub prefix-after-add : (rs : List Range) (r : Range) (p : ℕ) → add_fault rs r ≡ None
    → range_of_prefix (with_range rs r) p ≡ cond (holds_prefix p r) (Some r) (range_of_prefix rs p)
prefix-after-add rs r p free = prefix-with rs r p (none-all (overlaps r) rs
    (find-none (overlaps r) rs (free_parts rs r free).1))

none-behind : (s : Range) (rs : List Range) (p : ℕ) → list_all (is_before s) rs ≡ true → p ≤ s.high
    → find (holds_prefix p) rs ≡ None
none-behind s [] p h le = refl
none-behind s (x ∷ rs) p h le =
    let parts = and_parts (is_before s x) (list_all (is_before s) rs) h in
    let before = ltb-true s.high x.low parts.0 in
    rw (lt-leb x.low p (omega arith)) (none-behind s rs p parts.1 le)

prefix-without : (rs : List Range) (low high p : ℕ) → are_apart rs ≡ true
    → find (holds_prefix p) (without_range rs low high) ≡ unless_ends low high
    (find (holds_prefix p) rs)
prefix-without [] low high p h = refl
prefix-without (s ∷ rs) low high p h =
    let parts = and_parts (list_all (is_before s) rs) (are_apart rs) h in
    elim (cases_Bool (has_ends low high s)) [
      | inl ends ↦ elim (cases_Bool (holds_prefix p s)) [
        | inl in-s ↦
            let below = leb-true p s.high (and_parts (leb s.low p) (leb p s.high) in-s).1 in
            let none = none-behind s rs p parts.0 below in
            rw (ends, in-s, ends) (prefix-without rs low high p parts.1
            ∙ ap (λ (o : Option Range). unless_ends low high o) none)
        | inr not-s ↦ rw (ends, not-s) (prefix-without rs low high p parts.1)
      ]
      | inr other ↦ elim (cases_Bool (holds_prefix p s)) [
        | inl in-s ↦ rw (other, in-s, other) refl
        | inr not-s ↦ rw (other, not-s) (prefix-without rs low high p parts.1)
      ]
    ]

pub prefix-after-remove : (rs : List Range) (low high p : ℕ) → are_ranges rs ≡ true
    → range_of_prefix (without_range rs low high) p ≡ unless_ends low high (range_of_prefix rs p)
prefix-after-remove rs low high p h = prefix-without rs low high p
    (and_parts (list_all is_valid_range rs) (are_apart rs) h).1
