-- The numbers that bitmaps name: in ascending order, and one after the other.
use Rattle.std.proofs.Common.{◌≡◌, ◌≢◌, ℕ, zero, suc, ◌+◌, ◌<◌, ◌≤◌, Bool, true, false, ◌&&◌, cond}
use Rattle.std.proofs.Common.{List, [], ◌∷◌, ◌++◌, refl, sym, ap, ◌∙◌, arith, inl, inr}
use Rattle.std.specs.Prelude.{not}
use Rattle.std.specs.List.{list_all, filter, range_with_len}
use Rattle.std.proofs.lemmas.Bool.{cases_Bool, cases_eq, and_from}
use Rattle.iso_codec.specs.declared.bitmaps.Bitmaps.{Bitmaps}
use Rattle.iso_codec.specs.Message.{names, named, Ascends}

-- what a filter leaves of a range ascends
pub filter_ascends : (p : ℕ → Bool) (low a k : ℕ) → low < a →
    Ascends low (filter p (range_with_len a k))
filter_ascends p low a zero h = tt
filter_ascends p low a (suc k) h =
    elim (p a) as (λ b. Ascends low (cond b (a ∷ filter p (range_with_len (a + 1) k))
    (filter p (range_with_len (a + 1) k)))) [
      | true ↦ (h, filter_ascends p a (a + 1) k (omega arith))
      | false ↦ filter_ascends p low (a + 1) k (omega arith)
    ]

pub named_ascends : (bitmaps : Bitmaps) → Ascends 1 (named bitmaps)
unfolding named
named_ascends bitmaps = filter_ascends (names bitmaps) 1 2 127 (omega arith)

-- ---- filters of a range

-- tests that agree there
pub filter_same : (p q : ℕ → Bool) (a k : ℕ) → ((n : ℕ) → a ≤ n → n < a + k → p n ≡ q n)
    → filter p (range_with_len a k) ≡ filter q (range_with_len a k)
filter_same p q a zero h = refl
filter_same p q a (suc k) h =
    let rest = filter_same p q (a + 1) k (λ n lo hi. h n (omega arith) (omega arith)) in
    rw (h a (omega arith) (omega arith), rest) refl

pub filter_none : (p : ℕ → Bool) (a k : ℕ) → ((n : ℕ) → a ≤ n → n < a + k → p n ≡ false)
    → filter p (range_with_len a k) ≡ []
filter_none p a zero h = refl
filter_none p a (suc k) h =
    rw (h a (omega arith) (omega arith))
    (filter_none p (a + 1) k (λ n lo hi. h n (omega arith) (omega arith)))

-- n is the first that p keeps, and q keeps the others
pub filter_first : (p q : ℕ → Bool) (n a k : ℕ) → a ≤ n → n < a + k → p n ≡ true → q n ≡ false
    → ((m : ℕ) → a ≤ m → m < n → p m ≡ false) → ((m : ℕ) → a ≤ m → m < a + k → m ≢ n → q m ≡ p m)
    → filter p (range_with_len a k) ≡ n ∷ filter q (range_with_len a k)
filter_first p q n a zero lo hi here gone before others = absurd (omega arith)
filter_first p q n a (suc k) lo hi here gone before others =
    elim (cases_eq a n) [
      | inl same ↦
          let kept : p a ≡ true = rw same here in
          let left : q a ≡ false = rw same gone in
          let rest = filter_same p q (a + 1) k (λ m lo' hi'.
          sym (others m (omega arith) (omega arith) (omega arith))) in
          rw (kept, left, rest) (ap (λ (m : ℕ). m ∷ filter q (range_with_len (a + 1) k)) same)
      | inr other ↦
          let out : p a ≡ false = before a (omega arith) (omega arith) in
          let out' : q a ≡ false = others a (omega arith) (omega arith) other ∙ out in
          rw (out, out') (filter_first p q n (a + 1) k (omega arith) (omega arith) here gone
          (λ m lo' hi'. before m (omega arith) hi')
          (λ m lo' hi' ne. others m (omega arith) (omega arith) ne))
    ]

-- a filter of a filter
pub filter_both : (p q r : ℕ → Bool) (a k : ℕ) → ((n : ℕ) → a ≤ n → n < a + k → r n ≡ (p n && q n))
    → filter r (range_with_len a k) ≡ filter q (filter p (range_with_len a k))
filter_both p q r a zero h = refl
filter_both p q r a (suc k) h =
    let both = h a (omega arith) (omega arith) in
    let rest = filter_both p q r (a + 1) k (λ n lo hi. h n (omega arith) (omega arith)) in
    elim (cases_Bool (p a)) [
      | inl in_p ↦ elim (cases_Bool (q a)) [
        | inl in_q ↦ rw (both, in_p, in_q) (ap (λ (ns : List ℕ). a ∷ ns) rest)
        | inr not_q ↦ rw (both, in_p, not_q) rest
      ]
      | inr not_p ↦ rw (both, not_p) rest
    ]

-- ---- the first that fails a test

pub record FirstFails (p : ℕ → Bool) (ns : List ℕ) (n : ℕ) : Type 0 where
  pub earlier : List ℕ
  pub later : List ℕ
  pub parts : ns ≡ earlier ++ n ∷ later
  pub pass : list_all p earlier ≡ true
  pub fails : p n ≡ false

pub first_fails : (p : ℕ → Bool) (ns : List ℕ) (n : ℕ) (more : List ℕ) →
    filter (λ m. not (p m)) ns ≡ n ∷ more
    → FirstFails p ns n
first_fails p [] n more h = absurd cc
first_fails p (m ∷ ns) n more h =
    elim (cases_Bool (p m)) [
      | inl good ↦
          let rest = first_fails p ns n more (rw good at h) in
          record {
            earlier = m ∷ rest.earlier;
            later = rest.later;
            parts = ap (λ (l : List ℕ). m ∷ l) rest.parts;
            pass = and_from (p m) (list_all p rest.earlier) good rest.pass;
            fails = rest.fails;
          }
      | inr bad ↦
          let e : m ∷ filter (λ x. not (p x)) ns ≡ n ∷ more = rw bad at h in
          let same : m ≡ n = cc in
          record {
            earlier = [];
            later = ns;
            parts = ap (λ (x : ℕ). x ∷ ns) same;
            pass = refl;
            fails = rw (← same) bad;
          }
    ]

pub none_fails : (p : ℕ → Bool) (ns : List ℕ) → filter (λ m. not (p m)) ns ≡ [] →
    list_all p ns ≡ true
none_fails p [] h = refl
none_fails p (m ∷ ns) h =
    elim (cases_Bool (p m)) [
      | inl good ↦ and_from (p m) (list_all p ns) good (none_fails p ns (rw good at h))
      | inr bad ↦ let e : m ∷ filter (λ x. not (p x)) ns ≡ [] = rw bad at h in absurd cc
    ]
