-- The first range that doesn't end, or begin, below a number: the one that overlaps, that has these
-- ends, or before which a range goes.
use Rattle.std.proofs.Common.{◌≡◌, ℕ, zero, suc, ◌+◌, ◌<◌, ◌≤◌, true, false, Bool, ltb, leb, List}
use Rattle.std.proofs.Common.{[], ◌∷◌, length, get_or}
use Rattle.std.proofs.Common.{Some, None, refl, sym, ap, subst, ◌∙◌, arith, inl, inr}
use Rattle.std.specs.Prelude.{◌&&◌}
use Rattle.std.specs.List.{list_all, find, position, position_or_len, insert, AllWithin}
use Rattle.std.specs.List.Sorted.{IsPartitionedBy}
use Rattle.std.proofs.lemmas.Bool.{and_parts, cases_lt, ltb-true, lt-ltb, le-ltb, lt-leb}
use Rattle.std.proofs.lemmas.Bool.{le-leb, ne_eqb, true≢false}
use Rattle.std.proofs.lemmas.List.{get_or_default}
use Rattle.card_no.specs.declared.range.Range.{Range}
use Rattle.card_no.specs.Ranges.{is_valid_range, overlaps, has_ends, are_apart, are_ranges}
use Rattle.card_no.specs.Ranges.{between, overlapped_by, with_range}
use Rattle.card_no.proofs.RangeEnds.{ends_in_order}
use Rattle.card_no.proofs.ElementsThatPass.{all-at}
use Rattle.card_no.proofs.NearestRange.{apart_at}

-- a range before another ends below where that one begins
ends_before : (rs : List Range) (i j : ℕ) (d : Range) → are_ranges rs ≡ true → i < j
    → j < length rs → ((get_or rs i d).low ≤ (get_or rs i d).high)
    × ((get_or rs i d).high < (get_or rs j d).low)
    × ((get_or rs j d).low ≤ (get_or rs j d).high)
ends_before rs i j d h before lt =
    let parts = and_parts (list_all is_valid_range rs) (are_apart rs) h in (
      ends_in_order (get_or rs i d) (all-at is_valid_range rs i d parts.0 (omega arith)),
      apart_at rs i j d d parts.1 before lt,
      ends_in_order (get_or rs j d) (all-at is_valid_range rs j d parts.0 lt),
    )

-- those that end below a number come first
pub ended_first : (rs : List Range) (n : ℕ) → are_ranges rs ≡ true →
    IsPartitionedBy (λ (r : Range). ltb r.high n) rs
ended_first rs n h i j d le lt ended =
    elim (cases_lt i j) [
      | inl before ↦
          let ends = ends_before rs i j d h before lt in
          let high = ltb-true _ _ ended in
          lt-ltb _ n (omega (arith, ends.1, ends.2, high))
      | inr not_before ↦
          let same : j ≡ i = omega arith in
          subst (λ (k : ℕ). ltb (get_or rs k d).high n ≡ true) same ended
    ]

-- those that begin below a number come first
pub begun_below_first : (rs : List Range) (n : ℕ) → are_ranges rs ≡ true →
    IsPartitionedBy (λ (r : Range). ltb r.low n) rs
begun_below_first rs n h i j d le lt begun =
    elim (cases_lt i j) [
      | inl before ↦
          let ends = ends_before rs i j d h before lt in
          let low = ltb-true _ _ begun in
          lt-ltb _ n (omega (arith, ends.0, ends.1, low))
      | inr not_before ↦
          let same : j ≡ i = omega arith in
          subst (λ (k : ℕ). ltb (get_or rs k d).low n ≡ true) same begun
    ]

-- the first that passes stands where all before it fail
find_at : {X : Type 0} (p : X → Bool) (xs : List X) (n : ℕ) (d : X) → n < length xs
    → AllWithin (λ x. p x ≡ false) xs 0 n → p (get_or xs n d) ≡ true
    → find p xs ≡ Some (get_or xs n d)
find_at p [] n d lt fails passes = absurd (omega arith)
find_at p (x ∷ xs) zero d lt fails passes = rw passes refl
find_at p (x ∷ xs) (suc n) d lt fails passes =
    rw (fails 0 d (omega arith) (omega arith))
    (find_at p xs n d (omega arith) (λ k e ge l. fails (suc k) e (omega arith) (omega arith)) passes)

find_never : {X : Type 0} (p : X → Bool) (xs : List X)
    → AllWithin (λ x. p x ≡ false) xs 0 (length xs) → find p xs ≡ None
find_never p [] fails = refl
find_never p (x ∷ xs) fails =
    rw (fails 0 x (omega arith) (omega arith))
    (find_never p xs (λ k e ge l. fails (suc k) e (omega arith) (omega arith)))

-- and so its place
place_is : {X : Type 0} (p : X → Bool) (xs : List X) (n : ℕ) (d : X) → n < length xs
    → AllWithin (λ x. p x ≡ false) xs 0 n → p (get_or xs n d) ≡ true
    → position_or_len p xs ≡ n
place_is p [] n d lt fails passes = absurd (omega arith)
place_is p (x ∷ xs) zero d lt fails passes = rw passes refl
place_is p (x ∷ xs) (suc n) d lt fails passes =
    let next : position_or_len p (x ∷ xs) ≡ 1 + position_or_len p xs =
    rw (fails 0 d (omega arith) (omega arith)) refl in
    let later = place_is p xs n d (omega arith)
    (λ k e ge l. fails (suc k) e (omega arith) (omega arith)) passes in
    omega (arith, next, later)

no_place : {X : Type 0} (p : X → Bool) (xs : List X)
    → AllWithin (λ x. p x ≡ false) xs 0 (length xs) → position_or_len p xs ≡ length xs
no_place p [] fails = refl
no_place p (x ∷ xs) fails =
    let next : position_or_len p (x ∷ xs) ≡ 1 + position_or_len p xs =
    rw (fails 0 x (omega arith) (omega arith)) refl in
    let later = no_place p xs (λ k e ge l. fails (suc k) e (omega arith) (omega arith)) in
    omega (arith, next, later)

position_at : {X : Type 0} (p : X → Bool) (xs : List X) (n : ℕ) (d : X) → n < length xs
    → AllWithin (λ x. p x ≡ false) xs 0 n → p (get_or xs n d) ≡ true
    → position p xs ≡ Some n
position_at p xs n d lt fails passes =
    rw (place_is p xs n d lt fails passes, lt-ltb n (length xs) lt) refl

position_never : {X : Type 0} (p : X → Bool) (xs : List X)
    → AllWithin (λ x. p x ≡ false) xs 0 (length xs) → position p xs ≡ None
position_never p xs fails = rw (no_place p xs fails, le-ltb (length xs) (length xs) (omega arith)) refl

-- ---- what overlaps

never : (b : Bool) → (b && false) ≡ false
never true = refl
never false = refl

-- what ends below a range doesn't overlap it
ended_fails : (low high : ℕ) (r : Range) → r.high < low → overlaps (between low high) r ≡ false
ended_fails low high r lt = rw (lt-leb low r.high lt) refl

-- the first that doesn't end below overlaps
pub first_overlaps : (rs : List Range) (low high n : ℕ) (d r : Range) → n < length rs
    → AllWithin (λ s. s.high < low) rs 0 n → r ≡ get_or rs n d
    → overlaps (between low high) r ≡ true → overlapped_by (between low high) rs ≡ Some r
first_overlaps rs low high n d r lt ended is here =
    rw is (find_at (overlaps (between low high)) rs n d lt
    (λ k e ge l. ended_fails low high (get_or rs k e) (ended k e ge l))
    (subst (λ (s : Range). overlaps (between low high) s ≡ true) is here))

-- what the places behind say of the range that is there
pub not_below : (rs : List Range) (low n : ℕ) (d r : Range) → n < length rs
    → AllWithin (λ s. low ≤ s.high) rs n (length rs) → r ≡ get_or rs n d → low ≤ r.high
not_below rs low n d r lt later is =
    let high : r.high ≡ (get_or rs n d).high = ap (λ (s : Range). s.high) is in
    let le = later n d (omega arith) lt in
    omega (arith, high, le)

pub not_begun : (rs : List Range) (low n : ℕ) (d r : Range) → n < length rs
    → AllWithin (λ s. low ≤ s.low) rs n (length rs) → r ≡ get_or rs n d → low ≤ r.low
not_begun rs low n d r lt later is =
    let low-is : r.low ≡ (get_or rs n d).low = ap (λ (s : Range). s.low) is in
    let le = later n d (omega arith) lt in
    omega (arith, low-is, le)

-- it doesn't, and so no later one
pub first_fails : (rs : List Range) (low high n : ℕ) (d r : Range) → are_ranges rs ≡ true
    → n < length rs → AllWithin (λ s. s.high < low) rs 0 n → low ≤ r.high → r ≡ get_or rs n d
    → overlaps (between low high) r ≡ false → overlapped_by (between low high) rs ≡ None
first_fails rs low high n d r h lt ended later is past =
    find_never (overlaps (between low high)) rs fails
  where
    above : high < r.low
    above = elim (cases_lt high r.low) [
      | inl over ↦ over
      | inr not_over ↦
          let both : overlaps (between low high) r ≡ true =
          rw (le-leb low r.high later, le-leb r.low high (omega arith)) refl in
          absurd (true≢false (sym both ∙ past))
    ]

    behind : (k : ℕ) (e : Range) → k < length rs → n ≤ k → high < (get_or rs k e).low
    behind k e within from = elim (cases_lt n k) [
      | inl before ↦
          let ends = ends_before rs n k e h before within in
          let same : r ≡ get_or rs n e = is ∙ get_or_default rs n d e lt in
          let low-is : r.low ≡ (get_or rs n e).low = ap (λ (s : Range). s.low) same in
          omega (arith, above, ends.0, ends.1, low-is)
      | inr not_before ↦
          let at : n ≡ k = omega arith in
          let same : r ≡ get_or rs k e = is ∙ get_or_default rs n d e lt
          ∙ ap (λ (j : ℕ). get_or rs j e) at in
          subst (λ (s : Range). high < s.low) same above
    ]

    begins_above : (k : ℕ) (e : Range) → k < length rs → n ≤ k
        → overlaps (between low high) (get_or rs k e) ≡ false
    begins_above k e within from = rw (lt-leb (get_or rs k e).low high (behind k e within from))
        (never (leb low (get_or rs k e).high))

    fails : AllWithin (λ s. overlaps (between low high) s ≡ false) rs 0 (length rs)
    fails k e ge within = elim (cases_lt k n) [
      | inl first ↦ ended_fails low high (get_or rs k e) (ended k e ge first)
      | inr not_first ↦ begins_above k e within (omega arith)
    ]

-- all end below
pub none_overlaps : (rs : List Range) (low high n : ℕ) → length rs ≤ n
    → AllWithin (λ s. s.high < low) rs 0 n → overlapped_by (between low high) rs ≡ None
none_overlaps rs low high n past ended = find_never (overlaps (between low high)) rs
    (λ k e ge l. ended_fails low high (get_or rs k e) (ended k e ge (omega arith)))

-- ---- what has these ends

-- what begins elsewhere has other ends
begins_elsewhere : (low high : ℕ) (r : Range) → (r.low ≡ low → ⊥) → has_ends low high r ≡ false
begins_elsewhere low high r other = rw (ne_eqb r.low low other) refl

begun_fails : (low high : ℕ) (r : Range) → r.low < low → has_ends low high r ≡ false
begun_fails low high r lt = begins_elsewhere low high r (λ same. omega (arith, same))

pub first_has_ends : (rs : List Range) (low high n : ℕ) (d r : Range) → n < length rs
    → AllWithin (λ s. s.low < low) rs 0 n → r ≡ get_or rs n d → has_ends low high r ≡ true
    → position (has_ends low high) rs ≡ Some n
first_has_ends rs low high n d r lt begun is here =
    position_at (has_ends low high) rs n d lt
    (λ k e ge l. begun_fails low high (get_or rs k e) (begun k e ge l))
    (subst (λ (s : Range). has_ends low high s ≡ true) is here)

pub first_has_other : (rs : List Range) (low high n : ℕ) (d r : Range) → are_ranges rs ≡ true
    → n < length rs → AllWithin (λ s. s.low < low) rs 0 n → low ≤ r.low → r ≡ get_or rs n d
    → has_ends low high r ≡ false → position (has_ends low high) rs ≡ None
first_has_other rs low high n d r h lt begun later is past =
    position_never (has_ends low high) rs fails
  where
    from_here : (k : ℕ) (e : Range) → k < length rs → n ≤ k
        → has_ends low high (get_or rs k e) ≡ false
    from_here k e within from = elim (cases_lt n k) [
      | inl before ↦
          let ends = ends_before rs n k e h before within in
          let same : r ≡ get_or rs n e = is ∙ get_or_default rs n d e lt in
          let low-is : r.low ≡ (get_or rs n e).low = ap (λ (s : Range). s.low) same in
          begins_elsewhere low high (get_or rs k e)
          (λ e-is. omega (arith, later, ends.0, ends.1, low-is, e-is))
      | inr not_before ↦
          let at : n ≡ k = omega arith in
          let same : r ≡ get_or rs k e = is ∙ get_or_default rs n d e lt
          ∙ ap (λ (j : ℕ). get_or rs j e) at in
          subst (λ (s : Range). has_ends low high s ≡ false) same past
    ]

    fails : AllWithin (λ s. has_ends low high s ≡ false) rs 0 (length rs)
    fails k e ge within = elim (cases_lt k n) [
      | inl first ↦ begun_fails low high (get_or rs k e) (begun k e ge first)
      | inr not_first ↦ from_here k e within (omega arith)
    ]

pub none_has_ends : (rs : List Range) (low high n : ℕ) → length rs ≤ n
    → AllWithin (λ s. s.low < low) rs 0 n → position (has_ends low high) rs ≡ None
none_has_ends rs low high n past begun = position_never (has_ends low high) rs
    (λ k e ge l. begun_fails low high (get_or rs k e) (begun k e ge (omega arith)))

-- ---- where a range goes

pub put_behind : (rs : List Range) (r : Range) (n : ℕ) → n ≤ length rs
    → AllWithin (λ s. s.low < r.low) rs 0 n → AllWithin (λ s. r.low ≤ s.low) rs n (length rs)
    → insert rs n r ≡ with_range rs r
put_behind [] r zero within begun later = refl
put_behind [] r (suc n) within begun later = absurd (omega arith)
put_behind (s ∷ rs) r zero within begun later =
    rw (le-ltb s.low r.low (later 0 s (omega arith) (omega arith))) refl
put_behind (s ∷ rs) r (suc n) within begun later =
    rw (lt-ltb s.low r.low (begun 0 s (omega arith) (omega arith)))
    (ap (λ (l : List Range). s ∷ l) (put_behind rs r n (omega arith)
    (λ k e ge l. begun (suc k) e (omega arith) (omega arith))
    (λ k e ge l. later (suc k) e (omega arith) (omega arith))))
