-- Members of lists, and what becomes of them when a list is changed.
use Rattle.std.proofs.Common.{◌≡◌, zero, suc, List, [], ◌∷◌, ◌++◌, Some, None, Bool, true, false}
use Rattle.std.proofs.Common.{cond, ◌⊎◌, inl, inr, refl, sym, ap, ◌∙◌, subst, arith}
use Rattle.std.specs.Prelude.{map, filter, find, Contains}
use Rattle.std.specs.List.{list_any}
use Rattle.acq_soundness.proofs.Lookups.{or_split}

-- x is one of xs
abbrev pub In : {X : Type 0} → X → List X → Type 0
In x [] = ⊥
In x (y ∷ ys) = (y ≡ x) ⊎ In x ys

pub from_In : {X : Type 0} (x : X) (xs : List X) → In x xs → Contains xs x
from_In x [] h = absurd h
from_In x (y ∷ ys) (inl e) = (0, omega arith, e)
from_In x (y ∷ ys) (inr h) = let c = from_In x ys h in (suc c.0, omega (arith, c.1), c.2)

pub to_In : {X : Type 0} (x : X) (xs : List X) → Contains xs x → In x xs
to_In x [] c = absurd (omega (arith, c.1))
to_In x (y ∷ ys) (zero, lt, e) = inl e
to_In x (y ∷ ys) (suc k, lt, e) = inr (to_In x ys (k, omega (arith, lt), e))

-- a member of the first part is one of the whole
pub In-first : {X : Type 0} (x : X) (xs ys : List X) → In x xs → In x (xs ++ ys)
In-first x [] ys h = absurd h
In-first x (y ∷ xs) ys (inl e) = inl e
In-first x (y ∷ xs) ys (inr h) = inr (In-first x xs ys h)

-- the one that was added is one
pub In-last : {X : Type 0} (x : X) (xs : List X) → In x (xs ++ x ∷ [])
In-last x [] = inl refl
In-last x (y ∷ xs) = inr (In-last x xs)

-- of a list with one more at its end
pub In-push : {X : Type 0} (x : X) (xs : List X) (y : X) → In x (xs ++ y ∷ []) → In x xs ⊎ (y ≡ x)
In-push x [] y (inl e) = inr e
In-push x [] y (inr h) = absurd h
In-push x (z ∷ xs) y (inl e) = inl (inl e)
In-push x (z ∷ xs) y (inr h) = elim (In-push x xs y h) [ inl a ↦ inl (inr a) | inr e ↦ inr e ]

pub In-map : {X : Type 0} (u : X → X) (x : X) (xs : List X) → In x xs → In (u x) (map u xs)
In-map u x [] h = absurd h
In-map u x (y ∷ ys) (inl e) = inl (ap u e)
In-map u x (y ∷ ys) (inr h) = inr (In-map u x ys h)

-- one of a mapped list is mapped from one
pub In-mapped : {X : Type 0} (u : X → X) (x : X) (xs : List X) → In x (map u xs) →
    (y : X) × In y xs × (u y ≡ x)
In-mapped u x [] h = absurd h
In-mapped u x (y ∷ ys) (inl e) = (y, inl refl, e)
In-mapped u x (y ∷ ys) (inr h) = let a = In-mapped u x ys h in (a.0, inr a.1, a.2)

-- what is found is one of the list, and passes
pub In-find : {X : Type 0} (p : X → Bool) (xs : List X) (x : X) → find p xs ≡ Some x →
    In x xs × (p x ≡ true)
In-find p [] x e = absurd (cc)
In-find {X} p (y ∷ ys) x e = step (In-find p ys x) (p y) refl e
  where
    step : (find p ys ≡ Some x → In x ys × (p x ≡ true)) → (b : Bool) → p y ≡ b →
        cond b (Some y) (find p ys) ≡ Some x → In x (y ∷ ys) × (p x ≡ true)
    step rest true h f = let same : y ≡ x = cc in (inl same, subst (λ z. p z ≡ true) same h)
    step rest false h f = let a = rest f in (inr a.0, a.1)

-- where none is found, none passes
pub In-find_none : {X : Type 0} (p : X → Bool) (xs : List X) → find p xs ≡ None → (x : X) →
    In x xs → p x ≡ false
In-find_none p [] e x h = absurd h
In-find_none {X} p (y ∷ ys) e x h = step (λ f i. In-find_none p ys f x i) (p y) refl e h
  where
    step : (find p ys ≡ None → In x ys → p x ≡ false) → (b : Bool) → p y ≡ b →
        cond b (Some y) (find p ys) ≡ None → In x (y ∷ ys) → p x ≡ false
    step rest true q f i = absurd (cc)
    step rest false q f (inl same) = subst (λ z. p z ≡ false) same q
    step rest false q f (inr i) = rest f i

-- a member that passes stays
pub In-filter : {X : Type 0} (p : X → Bool) (x : X) (xs : List X) → In x xs → p x ≡ true →
    In x (filter p xs)
In-filter p x [] h t = absurd h
In-filter {X} p x (y ∷ ys) h t = step (λ i. In-filter p x ys i t) (p y) refl h
  where
    step : (In x ys → In x (filter p ys)) → (b : Bool) → p y ≡ b → In x (y ∷ ys) →
        In x (cond b (y ∷ filter p ys) (filter p ys))
    step rest true q (inl e) = inl e
    step rest true q (inr i) = inr (rest i)
    step rest false q (inl e) = absurd (let no : p x ≡ false = subst (λ z. p z ≡ false) e q in cc)
    step rest false q (inr i) = rest i

pub In-filtered : {X : Type 0} (p : X → Bool) (x : X) (xs : List X) → In x (filter p xs) →
    In x xs × (p x ≡ true)
In-filtered p x [] h = absurd h
In-filtered {X} p x (y ∷ ys) h = step (In-filtered p x ys) (p y) refl h
  where
    step : (In x (filter p ys) → In x ys × (p x ≡ true)) → (b : Bool) → p y ≡ b →
        In x (cond b (y ∷ filter p ys) (filter p ys)) → In x (y ∷ ys) × (p x ≡ true)
    step rest true q (inl e) = (inl e, subst (λ z. p z ≡ true) e q)
    step rest true q (inr i) = let a = rest i in (inr a.0, a.1)
    step rest false q i = let a = rest i in (inr a.0, a.1)

-- filters commute
pub filter-filter : {X : Type 0} (p q : X → Bool) (xs : List X) →
    filter p (filter q xs) ≡ filter q (filter p xs)
filter-filter p q [] = refl
filter-filter {X} p q (x ∷ xs) = step (filter-filter p q xs) (p x) (q x) refl refl
  where
    step : filter p (filter q xs) ≡ filter q (filter p xs) → (a b : Bool) → p x ≡ a → q x ≡ b →
        filter p (cond b (x ∷ filter q xs) (filter q xs))
        ≡ filter q (cond a (x ∷ filter p xs) (filter p xs))
    step rest true true e f =
        ap (λ c. cond c (x ∷ filter p (filter q xs)) (filter p (filter q xs))) e
        ∙ (ap (λ l. x ∷ l) rest
        ∙ ap (λ c. cond c (x ∷ filter q (filter p xs)) (filter q (filter p xs))) (sym f))
    step rest true false e f =
        rest ∙ ap (λ c. cond c (x ∷ filter q (filter p xs)) (filter q (filter p xs))) (sym f)
    step rest false true e f =
        ap (λ c. cond c (x ∷ filter p (filter q xs)) (filter p (filter q xs))) e ∙ rest
    step rest false false e f = rest

-- where a list has none that passes, no member does
pub any_none : {X : Type 0} (p : X → Bool) (xs : List X) → list_any p xs ≡ false → (x : X) →
    In x xs → p x ≡ false
any_none p [] e x h = absurd h
any_none p (y ∷ ys) e x (inl same) =
    subst (λ z. p z ≡ false) same (or_split (p y) (list_any p ys) e).0
any_none p (y ∷ ys) e x (inr h) = any_none p ys (or_split (p y) (list_any p ys) e).1 x h
