-- The lines of the requests of a day, out of all that wait.
use Rattle.std.proofs.Common.{◌≡◌, List, [], ◌∷◌, ◌++◌, Bool, true, false, cond, filter, ap, refl}
use Rattle.std.specs.List.{flat_map}

module _ {X Y : Type 0} (p : X → Bool) (f : X → List Y) where
  pub lines_of_some : (xs : List X) →
      flat_map (λ x. cond (p x) (f x) []) xs ≡ flat_map f (filter p xs)
  lines_of_some [] = refl
  lines_of_some (x ∷ xs) =
      elim (p x) as
      (λ b. cond b (f x) [] ++ flat_map (λ y. cond (p y) (f y) []) xs
      ≡ flat_map f (cond b (x ∷ filter p xs) (filter p xs))) [
        | true ↦ ap (λ ys. f x ++ ys) (lines_of_some xs)
        | false ↦ lines_of_some xs
      ]
