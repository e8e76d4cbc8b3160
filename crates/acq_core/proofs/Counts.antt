-- Counts of rows when a row comes, and a look-up that ends with none.
use Rattle.std.proofs.Common.{◌≡◌, ℕ, ◌+◌, List, [], ◌∷◌, ◌++◌, Option, Some, None, Bool, true}
use Rattle.std.proofs.Common.{false, cond}
use Rattle.std.proofs.Common.{refl, ap, ◌∙◌}
use Rattle.std.specs.Prelude.{◌&&◌}
use Rattle.std.specs.Option.{option_or}
use Rattle.std.proofs.lemmas.List.{append-nil}
use Rattle.acq_core.specs.Tables.{count}

pub or_none : {X : Type 0} (o : Option X) → option_or o None ≡ o
or_none None = refl
or_none (Some x) = refl

-- one more at the end
pub count-push : {X : Type 0} (p : X → Bool) (xs : List X) (y : X) →
    count p (xs ++ y ∷ []) ≡ cond (p y) (1 + count p xs) (count p xs)
count-push p [] y = refl
count-push p (x ∷ xs) y =
    ap (λ n. cond (p x) (1 + n) n) (count-push p xs y)
    ∙ swap (p x) (p y) (count p xs)
  where
    swap : (b c : Bool) (n : ℕ) →
        cond b (1 + cond c (1 + n) n) (cond c (1 + n) n) ≡ cond c (1 + cond b (1 + n) n)
        (cond b (1 + n) n)
    swap true true n = refl
    swap true false n = refl
    swap false true n = refl
    swap false false n = refl

-- one more, if it is there
pub count-push_if : {X : Type 0} (p : X → Bool) (xs : List X) (y : X) (c : Bool) →
    count p (xs ++ cond c (y ∷ []) []) ≡ cond (c && p y) (1 + count p xs) (count p xs)
count-push_if p xs y true = count-push p xs y
count-push_if p xs y false = ap (count p) (append-nil xs)
