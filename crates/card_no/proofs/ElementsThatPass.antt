-- Lists whose every element passes a test.
use Rattle.std.proofs.Common.{◌≡◌, ℕ, zero, suc, ◌<◌, true, Bool, List, [], ◌∷◌, length, get_or}
use Rattle.std.proofs.Common.{refl, ap, subst, arith, inl, inr}
use Rattle.std.specs.List.{list_all, filter, Contains}
use Rattle.std.proofs.lemmas.Bool.{and_parts, and_from, cases_Bool}

pub all-at : {X : Type 0} (p : X → Bool) (xs : List X) (k : ℕ) (d : X) → list_all p xs ≡ true →
    k < length xs
    → p (get_or xs k d) ≡ true
all-at p [] k d h lt = absurd (omega arith)
all-at p (x ∷ xs) zero d h lt = (and_parts (p x) (list_all p xs) h).0
all-at p (x ∷ xs) (suc k) d h lt = all-at p xs k d (and_parts (p x) (list_all p xs) h).1
    (omega arith)

pub all-contains : {X : Type 0} (p : X → Bool) (xs : List X) (x : X) → list_all p xs ≡ true →
    Contains xs x → p x ≡ true
all-contains {X} p xs x h there = subst (λ (y : X). p y ≡ true) there.2
    (all-at p xs there.0 x h there.1)

-- a test that follows from another
pub all-weaker : {X : Type 0} (p q : X → Bool) (xs : List X) → ((x : X) → p x ≡ true → q x ≡ true) →
    list_all p xs
    ≡ true → list_all q xs ≡ true
all-weaker p q [] w h = refl
all-weaker p q (x ∷ xs) w h =
    let parts = and_parts (p x) (list_all p xs) h in
    and_from (q x) (list_all q xs) (w x parts.0) (all-weaker p q xs w parts.1)

-- the same where the element passes a third test too
pub all-weaker-at : {X : Type 0} (p r q : X → Bool) (xs : List X) →
    ((x : X) → p x ≡ true → r x ≡ true → q x ≡ true)
    → list_all p xs ≡ true → list_all r xs ≡ true → list_all q xs ≡ true
all-weaker-at p r q [] w h k = refl
all-weaker-at p r q (x ∷ xs) w h k =
    let parts = and_parts (p x) (list_all p xs) h in
    let others = and_parts (r x) (list_all r xs) k in
    and_from (q x) (list_all q xs) (w x parts.0 others.0)
    (all-weaker-at p r q xs w parts.1 others.1)

pub all-filter : {X : Type 0} (p q : X → Bool) (xs : List X) → list_all p xs ≡ true →
    list_all p (filter q xs) ≡ true
all-filter p q [] h = refl
all-filter p q (x ∷ xs) h =
    let parts = and_parts (p x) (list_all p xs) h in
    elim (cases_Bool (q x)) [
      | inl yes-q ↦ rw yes-q
          (and_from (p x) (list_all p (filter q xs)) parts.0 (all-filter p q xs parts.1))
      | inr no-q ↦ rw no-q (all-filter p q xs parts.1)
    ]

-- a filter that every element passes
pub filter-all : {X : Type 0} (q : X → Bool) (xs : List X) → list_all q xs ≡ true → filter q xs ≡ xs
filter-all q [] h = refl
filter-all {X} q (x ∷ xs) h =
    let parts = and_parts (q x) (list_all q xs) h in
    rw parts.0 (ap (λ (l : List X). x ∷ l) (filter-all q xs parts.1))
