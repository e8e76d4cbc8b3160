-- Counts of rows, when a row comes or is edited.
use Rattle.std.proofs.Common.{◌≡◌, ℕ, ◌+◌, ◌≤◌, List, [], ◌∷◌, ◌++◌, Bool, true, false, cond, refl}
use Rattle.std.proofs.Common.{ap, ◌∙◌, length, arith, map}
use Rattle.std.specs.Prelude.{◌&&◌, filter}
use Rattle.std.specs.Str.{bytes_eq}
use Rattle.std.proofs.lemmas.List.Elements.{filter-append}
use Rattle.std.proofs.lemmas.Slice.Eq.{bytes_eq-Decides}
use Rattle.acq_core.specs.Tables.{count}
use Rattle.acq_core.proofs.Counts.{count-push_if}

-- among those that pass a filter
pub count-filter-push : {X : Type 0} (p q : X → Bool) (xs : List X) (y : X) →
    count p (filter q (xs ++ y ∷ [])) ≡ cond (q y && p y) (1 + count p (filter q xs))
    (count p (filter q xs))
count-filter-push p q xs y = ap (count p) (filter-append q xs (y ∷ [])) ∙ count-push_if p
    (filter q xs) y (q y)

-- an edit that neither test sees
pub count-filter-map : {X : Type 0} (p q : X → Bool) (u : X → X) → ((x : X) → p (u x) ≡ p x) →
    ((x : X) → q (u x) ≡ q x) → (xs : List X) →
    count p (filter q (map u xs)) ≡ count p (filter q xs)
count-filter-map p q u ps qs [] = refl
count-filter-map p q u ps qs (x ∷ xs) =
    ap (λ b. count p (cond b (u x ∷ filter q (map u xs)) (filter q (map u xs)))) (qs x)
    ∙ elim (q x) as (λ b. count p (cond b (u x ∷ filter q (map u xs)) (filter q (map u xs)))
    ≡ count p (cond b (x ∷ filter q xs) (filter q xs))) [
      | true ↦ (λ i. cond (ps x i) (1 + count-filter-map p q u ps qs xs i)
          (count-filter-map p q u ps qs xs i))
      | false ↦ count-filter-map p q u ps qs xs
    ]

pub count-le : {X : Type 0} (p : X → Bool) (xs : List X) → count p xs ≤ length xs
count-le p [] = omega arith
count-le p (x ∷ xs) =
    let rest = count-le p xs in
    elim (p x) as (λ b. cond b (1 + count p xs) (count p xs) ≤ length (x ∷ xs))
    [ true ↦ omega arith | false ↦ omega arith ]

pub length-filter : {X : Type 0} (p : X → Bool) (xs : List X) → length (filter p xs) ≤ length xs
length-filter p [] = omega arith
length-filter p (x ∷ xs) =
    let rest = length-filter p xs in
    elim (p x) as (λ b. length (cond b (x ∷ filter p xs) (filter p xs)) ≤ length (x ∷ xs))
    [ true ↦ omega arith | false ↦ omega arith ]

pub count-filter-le : {X : Type 0} (p q : X → Bool) (xs : List X) →
    count p (filter q xs) ≤ length xs
count-filter-le p q xs = omega (arith, count-le p (filter q xs), length-filter q xs)

pub text_is : (a b : List ℕ) → bytes_eq a b ≡ true → a ≡ b
text_is a b e = (bytes_eq-Decides a b).0 e

-- as many pass as a filter leaves
pub count-length : {X : Type 0} (p : X → Bool) (xs : List X) → length (filter p xs) ≡ count p xs
count-length p [] = refl
count-length p (x ∷ xs) =
    elim (p x) as
    (λ b. length (cond b (x ∷ filter p xs) (filter p xs)) ≡ cond b (1 + count p xs)
    (count p xs)) [
      | true ↦ let e = count-length p xs in omega arith
      | false ↦ count-length p xs
    ]
