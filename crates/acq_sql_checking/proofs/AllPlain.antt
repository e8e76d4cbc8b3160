-- Parts that are plain whatever they are.
use Rattle.std.proofs.Common.{List, [], ◌∷◌}
use Rattle.std.specs.List.{AllByRecursion}

pub all_plain : {A : Type 0} (xs : List A) → AllByRecursion (λ _. Unit {0}) xs
all_plain [] = tt
all_plain (x ∷ xs) = (tt, all_plain xs)
