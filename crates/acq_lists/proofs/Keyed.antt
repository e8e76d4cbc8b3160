-- Rows that stand under their keys.
use Rattle.std.proofs.Common.{◌≡◌, List, [], ◌∷◌, ◌++◌, Bool, true, false, cond, Some, None, Option}
use Rattle.std.proofs.Common.{refl}
use Rattle.std.proofs.Common.{ap, ◌∙◌, is_some}
use Rattle.std.specs.Prelude.{◌||◌, find}
use Rattle.std.specs.List.{list_any}
use Rattle.std.specs.Map.{lookup, values_of}
use Rattle.acq_lists.specs.Keys.{IsKeyedBy}

-- what stands at a key is the row that has it
pub found-keyed : {K X : Type 0} (eq : K → K → Bool) (key : X → K) (test : K → X → Bool)
    → ((k : K) (x : X) → eq k (key x) ≡ test k x) → (k : K) (es : List (K × X)) → IsKeyedBy key es
    → lookup (eq k) es ≡ find (test k) (values_of es)
found-keyed eq key test same k [] h = refl
found-keyed eq key test same k (e ∷ es) h =
    λ i. cond ((ap (eq k) h.0 ∙ same k e.1) i) (Some e.1) (found-keyed eq key test same k es h.1 i)

-- one row more
pub keyed-push : {K X : Type 0} (key : X → K) (es : List (K × X)) (k : K) (x : X) → k ≡ key x
    → IsKeyedBy key es → IsKeyedBy key (es ++ (k, x) ∷ [])
keyed-push key [] k x e h = (e, tt)
keyed-push key (y ∷ ys) k x e h = (h.0, keyed-push key ys k x e h.1)

pub values-push : {K X : Type 0} (es : List (K × X)) (k : K) (x : X)
    → values_of (es ++ (k, x) ∷ []) ≡ values_of es ++ x ∷ []
values-push [] k x = refl
values-push (e ∷ es) k x = ap (λ zs. e.1 ∷ zs) (values-push es k x)

-- a row is found where one passes
pub found-any : {X : Type 0} (p : X → Bool) (xs : List X) → is_some (find p xs) ≡ list_any p xs
found-any p [] = refl
found-any p (x ∷ xs) =
    elim (p x) as (λ b. is_some (cond b (Some x) (find p xs)) ≡ (b || list_any p xs)) [
      | true ↦ refl
      | false ↦ found-any p xs
    ]

-- none is found where none passes
pub none-found : {X : Type 0} (o : Option X) → is_some o ≡ false → o ≡ None
none-found None e = refl
none-found (Some x) e = absurd (cc)
