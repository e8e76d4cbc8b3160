-- Of the ranges that begin at a prefix or below it, the last alone may hold it.
use Rattle.std.proofs.Common.{◌≡◌, ℕ, zero, suc, ◌-◌, ◌<◌, ◌≤◌, true, false, leb, List, [], ◌∷◌}
use Rattle.std.proofs.Common.{length, get_or}
use Rattle.std.proofs.Common.{Option, Some, None, refl, sym, ap, subst, ◌∙◌, arith, inl, inr}
use Rattle.std.specs.List.{list_all, find, AllWithin, Contains}
use Rattle.std.proofs.lemmas.Bool.{and_parts, true≢false, leb-true, le-leb, cases_lt}
use Rattle.std.specs.List.Sorted.{IsPartitionedBy}
use Rattle.std.proofs.lemmas.List.{get_or_default}
use Rattle.card_no.specs.declared.range.Range.{Range}
use Rattle.card_no.specs.Ranges.{is_valid_range, holds_prefix, is_before, are_apart, are_ranges}
use Rattle.card_no.specs.Ranges.{range_of_prefix}
use Rattle.card_no.proofs.RangeEnds.{ends_in_order, holds_parts, before_lt}
use Rattle.card_no.proofs.ElementsThatPass.{all-at, all-contains}
use Rattle.card_no.proofs.FirstThatPasses.{find-none, find-passes, find-contains, none-all}
use Rattle.card_no.proofs.OneRangeOfPrefix.{holds_one}

-- each range ends before every later one begins
pub apart_at : (rs : List Range) (j k : ℕ) (d e : Range) → are_apart rs ≡ true → j < k → k < length rs
    → (get_or rs j d).high < (get_or rs k e).low
apart_at [] j k d e h lt within = absurd (omega arith)
apart_at (r ∷ rs) j zero d e h lt within = absurd (omega arith)
apart_at (r ∷ rs) zero (suc k) d e h lt within =
    let parts = and_parts (list_all (is_before r) rs) (are_apart rs) h in
    before_lt r (get_or rs k e) (all-at (is_before r) rs k e parts.0 (omega arith))
apart_at (r ∷ rs) (suc j) (suc k) d e h lt within =
    let parts = and_parts (list_all (is_before r) rs) (are_apart rs) h in
    apart_at rs j k d e parts.1 (omega arith) (omega arith)

-- those that begin at a number or below it come first
pub begun_first : (rs : List Range) (n : ℕ) → are_ranges rs ≡ true →
    IsPartitionedBy (λ (r : Range). leb r.low n) rs
begun_first rs n h i j d le lt begun =
    let parts = and_parts (list_all is_valid_range rs) (are_apart rs) h in
    elim (cases_lt i j) [
      | inl before ↦
          let first = ends_in_order (get_or rs i d)
          (all-at is_valid_range rs i d parts.0 (omega arith)) in
          let apart = apart_at rs i j d d parts.1 before lt in
          let low = leb-true _ _ begun in
          le-leb _ n (omega (arith, first, apart, low))
      | inr not_before ↦
          let same : j ≡ i = omega arith in
          subst (λ (k : ℕ). leb (get_or rs k d).low n ≡ true) same begun
    ]

-- a range that holds a prefix is the last that begins there or below
last_begun : (rs : List Range) (p n : ℕ) (s : Range) → are_ranges rs ≡ true → n ≤ length rs
    → AllWithin (λ r. r.low ≤ p) rs 0 n → AllWithin (λ r. p < r.low) rs n (length rs)
    → Contains rs s → holds_prefix p s ≡ true → (1 ≤ n) × (get_or rs (n - 1) s ≡ s)
last_begun rs p n s h within begun above (k, lt, e) holds =
    let parts = and_parts (list_all is_valid_range rs) (are_apart rs) h in
    let ends = holds_parts p s holds in
    let low : (get_or rs k s).low ≡ s.low = ap (λ (r : Range). r.low) e in
    let high : (get_or rs k s).high ≡ s.high = ap (λ (r : Range). r.high) e in
    elim (cases_lt k n) [
      | inl first ↦ elim (cases_lt (suc k) n) [
        | inl before ↦
            let apart = apart_at rs k (n - 1) s s parts.1 (omega arith) (omega arith) in
            let last = begun (n - 1) s (omega arith) (omega arith) in
            absurd (omega (arith, apart, last, ends.1, high))
        | inr not_before ↦
            let same : n - 1 ≡ k = omega arith in
            (omega arith, ap (λ (j : ℕ). get_or rs j s) same ∙ e)
      ]
      | inr later ↦ let over = above k s (omega arith) lt in
          absurd (omega (arith, over, low, ends.0))
    ]

-- the range that is found, by what a range that holds the prefix is
found_by : (rs : List Range) (p : ℕ) (o : Option Range) → find (holds_prefix p) rs ≡ o
    → ((s : Range) → Contains rs s → holds_prefix p s ≡ true → ⊥) → o ≡ None
found_by rs p None is none = refl
found_by rs p (Some s) is none =
    absurd (none s (find-contains (holds_prefix p) rs s is) (find-passes (holds_prefix p) rs s is))

-- no range begins there or below
pub none_begun : (rs : List Range) (p n : ℕ) → are_ranges rs ≡ true → n ≤ length rs
    → AllWithin (λ r. r.low ≤ p) rs 0 n → AllWithin (λ r. p < r.low) rs n (length rs)
    → n < 1 → range_of_prefix rs p ≡ None
none_begun rs p n h within begun above none = found_by rs p _ refl (λ s there holds.
    let last = last_begun rs p n s h within begun above there holds in omega (arith, last.0))

-- the last that begins there or below doesn't hold it
pub last_fails : (rs : List Range) (p n : ℕ) (r d : Range) → are_ranges rs ≡ true → n ≤ length rs
    → AllWithin (λ r. r.low ≤ p) rs 0 n → AllWithin (λ r. p < r.low) rs n (length rs)
    → r ≡ get_or rs (n - 1) d → holds_prefix p r ≡ false → range_of_prefix rs p ≡ None
last_fails rs p n r d h within begun above is fails = found_by rs p _ refl (λ s there holds.
    let last = last_begun rs p n s h within begun above there holds in
    let same : r ≡ s = is ∙ get_or_default rs (n - 1) d s (omega (arith, last.0)) ∙ last.1 in
    let both : true ≡ false = sym (subst (λ (x : Range). holds_prefix p x ≡ true) (sym same) holds)
    ∙ fails in
    true≢false both)

-- the last that begins there or below holds it
pub last_holds : (rs : List Range) (p n : ℕ) (r d : Range) → are_ranges rs ≡ true → n < length rs
    → r ≡ get_or rs n d → holds_prefix p r ≡ true → range_of_prefix rs p ≡ Some r
last_holds rs p n r d h lt is holds = found _ refl
  where
    there : Contains rs r
    there = (n, lt, sym (is ∙ get_or_default rs n d r lt))

    found : (o : Option Range) → find (holds_prefix p) rs ≡ o → o ≡ Some r
    found None none =
        let passes = all-contains _ rs r
        (none-all (holds_prefix p) rs (find-none (holds_prefix p) rs none)) there in
        absurd (true≢false (sym (rw holds at passes)))
    found (Some s) some =
        let parts = and_parts (list_all is_valid_range rs) (are_apart rs) h in
        ap (λ (x : Range). Some x)
        (holds_one rs p r s parts.1 there (find-contains (holds_prefix p) rs s some) holds
        (find-passes (holds_prefix p) rs s some))
