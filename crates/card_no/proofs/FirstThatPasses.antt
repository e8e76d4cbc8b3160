-- The first element of a list that passes a test, and its place.
use Rattle.std.proofs.Common.{◌≡◌, ℕ, zero, suc, ◌+◌, ◌<◌, true, false, Bool, ltb, List, [], ◌∷◌}
use Rattle.std.proofs.Common.{length}
use Rattle.std.proofs.Common.{Option, Some, None, refl, sym, subst, ◌∙◌, arith, inl, inr}
use Rattle.std.specs.Prelude.{not}
use Rattle.std.specs.List.{list_all, list_any, find, Contains, position, position_or_len}
use Rattle.std.proofs.lemmas.Bool.{cases_Bool, true≢false, ltb-true, lt-ltb}

pub find-none : {X : Type 0} (p : X → Bool) (xs : List X) → find p xs ≡ None → list_any p xs ≡ false
find-none p [] h = refl
find-none {X} p (x ∷ xs) h =
    elim (cases_Bool (p x)) [
      | inl here ↦ let e : Some x ≡ None = rw here at h in absurd cc
      | inr past ↦ rw past (find-none p xs (rw past at h))
    ]

-- no element passes
pub none-all : {X : Type 0} (p : X → Bool) (xs : List X) → list_any p xs ≡ false →
    list_all (λ x. not (p x)) xs ≡ true
none-all p [] h = refl
none-all p (x ∷ xs) h =
    elim (cases_Bool (p x)) [
      | inl here ↦ let e : true ≡ false = rw here at h in absurd (true≢false e)
      | inr past ↦ rw past (none-all p xs (rw past at h))
    ]

pub find-passes : {X : Type 0} (p : X → Bool) (xs : List X) (x : X) → find p xs ≡ Some x →
    p x ≡ true
find-passes p [] x h = absurd cc
find-passes {X} p (y ∷ xs) x h =
    elim (cases_Bool (p y)) [
      | inl here ↦ let e : Some y ≡ Some x = rw here at h in let same : y ≡ x = cc in
          subst (λ (z : X). p z ≡ true) same here
      | inr past ↦ find-passes p xs x (rw past at h)
    ]

pub contains-later : {X : Type 0} (y : X) (xs : List X) (x : X) → Contains xs x →
    Contains (y ∷ xs) x
contains-later y xs x (k, lt, e) = (suc k, omega arith, e)

pub find-contains : {X : Type 0} (p : X → Bool) (xs : List X) (x : X) → find p xs ≡ Some x →
    Contains xs x
find-contains p [] x h = absurd cc
find-contains {X} p (y ∷ xs) x h =
    elim (cases_Bool (p y)) [
      | inl here ↦ let e : Some y ≡ Some x = rw here at h in let same : y ≡ x = cc in
          (zero, omega arith, same)
      | inr past ↦ contains-later y xs x (find-contains p xs x (rw past at h))
    ]

-- what a position says
position-within : {X : Type 0} (p : X → Bool) (xs : List X) (i : ℕ) → position p xs ≡ Some i
    → (position_or_len p xs ≡ i) × (i < length xs)
position-within p xs i h =
    elim (cases_Bool (ltb (position_or_len p xs) (length xs))) [
      | inl within ↦
          let e : Some (position_or_len p xs) ≡ Some i = rw within at h in
          let same : position_or_len p xs ≡ i = cc in
          (same, subst (λ (n : ℕ). n < length xs) same (ltb-true _ _ within))
      | inr past ↦ let e : None ≡ Some i = rw past at h in absurd cc
    ]

pub position-cons : {X : Type 0} (p : X → Bool) (x : X) (xs : List X) (i : ℕ) →
    position p (x ∷ xs) ≡ Some i
    → p x ≡ false → (j : ℕ) × (i ≡ suc j) × (position p xs ≡ Some j)
position-cons p x xs i h past =
    let at = position-within p (x ∷ xs) i h in
    let first : position_or_len p (x ∷ xs) ≡ 1 + position_or_len p xs = rw past refl in
    let lt : position_or_len p xs < length xs = omega (arith, at.0, at.1, first) in
    (position_or_len p xs, omega (arith, at.0, first), rw (lt-ltb _ _ lt) refl)

pub position-first : {X : Type 0} (p : X → Bool) (x : X) (xs : List X) (i : ℕ) →
    position p (x ∷ xs) ≡ Some i → p x
    ≡ true → i ≡ 0
position-first p x xs i h here =
    let at = position-within p (x ∷ xs) i h in
    let first : position_or_len p (x ∷ xs) ≡ 0 = rw here refl in
    omega (arith, at.0, first)

pub position-any : {X : Type 0} (p : X → Bool) (xs : List X) (i : ℕ) → position p xs ≡ Some i →
    list_any p xs ≡ true
position-any p [] i h = absurd cc
position-any p (x ∷ xs) i h =
    elim (cases_Bool (p x)) [
      | inl here ↦ rw here refl
      | inr past ↦ let next = position-cons p x xs i h past in
          rw past (position-any p xs next.0 next.2)
    ]

pub position-none : {X : Type 0} (p : X → Bool) (xs : List X) → position p xs ≡ None →
    list_any p xs ≡ false
position-none p [] h = refl
position-none p (x ∷ xs) h =
    elim (cases_Bool (p x)) [
      | inl here ↦
          let found : position p (x ∷ xs) ≡ Some 0 =
          rw (here, lt-ltb 0 (length (x ∷ xs)) (omega arith)) refl in
          let e : ◌≡◌ {A = Option ℕ} (Some 0) None = sym found ∙ h in
          absurd cc
      | inr past ↦ rw past (position-none p xs (not_there past))
    ]
  where
    not_there : p x ≡ false → position p xs ≡ None
    not_there past =
        elim (cases_Bool (ltb (position_or_len p xs) (length xs))) [
          | inl within ↦
              let lt : position_or_len p xs < length xs = ltb-true _ _ within in
              let e : Some (1 + position_or_len p xs) ≡ None =
              rw (past, lt-ltb (1 + position_or_len p xs) (length (x ∷ xs)) (omega arith)) at h in
              absurd cc
          | inr gone ↦ rw gone refl
        ]
