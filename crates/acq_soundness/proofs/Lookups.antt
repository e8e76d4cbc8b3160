-- What look-ups, counts and filters make of an edit of a list.
use Rattle.std.proofs.Common.{◌≡◌, ◌+◌, List, [], ◌∷◌, ◌++◌, Option, Some, None, Bool, true, false}
use Rattle.std.proofs.Common.{cond, inl, inr, refl, sym, ap, ◌∙◌}
use Rattle.std.specs.Prelude.{map, filter, find, option_map, option_and_then, ◌||◌, not, is_some}
use Rattle.std.specs.Prelude.{is_none}
use Rattle.std.specs.Option.{option_or}
use Rattle.std.specs.List.{list_all, list_any}
use Rattle.std.proofs.lemmas.Bool.{and_from, cases_Bool}
use Rattle.std.proofs.lemmas.List.{append-nil}
use Rattle.std.proofs.lemmas.List.Elements.{filter-append}
use Rattle.acq_core.specs.Tables.{count}

-- ---- tests

pub or_split : (a b : Bool) → (a || b) ≡ false → (a ≡ false) × (b ≡ false)
or_split true b e = absurd (cc)
or_split false b e = (refl, e)

pub or_true : (b : Bool) → (b || true) ≡ true
or_true true = refl
or_true false = refl

pub not_false : (b : Bool) → not b ≡ false → b ≡ true
not_false true e = refl
not_false false e = absurd (cc)

pub not_true : (b : Bool) → not b ≡ true → b ≡ false
not_true true e = absurd (cc)
not_true false e = refl

-- true and false are two
pub clash : {X : Type 0} (b : Bool) → b ≡ true → b ≡ false → X
clash b t f = absurd (let h : true ≡ false = sym t ∙ f in cc)

-- ---- options

pub none_of : {X : Type 0} (o : Option X) → is_none o ≡ true → o ≡ None
none_of None e = refl
none_of (Some x) e = absurd (cc)

pub not_some : {X : Type 0} (o : Option X) → not (is_some o) ≡ true → o ≡ None
not_some None e = refl
not_some (Some x) e = absurd (cc)

pub is_some_there : {X : Type 0} (o : Option X) → is_some o ≡ true → (x : X) × (o ≡ Some x)
is_some_there None e = absurd (cc)
is_some_there (Some x) e = (x, refl)

pub none_some : {X P : Type 0} (x : X) → None ≡ Some x → P
none_some x e = absurd (cc)

pub some_is : {X : Type 0} (x y : X) → Some x ≡ Some y → x ≡ y
some_is x y e = cc

pub map_none : {X Y : Type 0} (f : X → Y) (o : Option X) → option_map f o ≡ None → o ≡ None
map_none f None e = refl
map_none f (Some x) e = absurd (let h : Some (f x) ≡ None = e in cc)

pub map_some : {X Y : Type 0} (f : X → Y) (o : Option X) (y : Y) → option_map f o ≡ Some y →
    (x : X) × (o ≡ Some x) × (f x ≡ y)
map_some {X} {Y} f None y e = absurd (let h : ◌≡◌ {A = Option Y} None (Some y) = e in cc)
map_some f (Some x) y e = (x, refl, some_is (f x) y e)

pub then_some : {X Y : Type 0} (f : X → Option Y) (o : Option X) (y : Y) →
    option_and_then f o ≡ Some y → (x : X) × (o ≡ Some x) × (f x ≡ Some y)
then_some {X} {Y} f None y e = absurd (let h : ◌≡◌ {A = Option Y} None (Some y) = e in cc)
then_some f (Some x) y e = (x, refl, e)

pub then_map : {X Y Z : Type 0} (f : X → Y) (g : Y → Option Z) (o : Option X) →
    option_and_then (λ x. g (f x)) o ≡ option_and_then g (option_map f o)
then_map f g None = refl
then_map f g (Some x) = refl

pub map_map : {X Y Z : Type 0} (f : Y → Z) (g : X → Y) (o : Option X) →
    option_map f (option_map g o) ≡ option_map (λ x. f (g x)) o
map_map f g None = refl
map_map f g (Some x) = refl

-- where neither of two is there, the first isn't
pub own_none : {X : Type 0} (o p : Option X) → option_or o p ≡ None → o ≡ None
own_none None p e = refl
own_none (Some x) p e = absurd (cc)

-- ---- lists

-- to find by what a view shows is to find among the views
pub find-view : {X Y : Type 0} (v : X → Y) (q : Y → Bool) (xs : List X) →
    find q (map v xs) ≡ option_map v (find (λ x. q (v x)) xs)
find-view v q [] = refl
find-view v q (x ∷ xs) =
    elim (q (v x)) as (λ b. cond b (Some (v x)) (find q (map v xs))
    ≡ option_map v (cond b (Some x) (find (λ y. q (v y)) xs)))
    [ true ↦ refl | false ↦ find-view v q xs ]

-- so it is with counting
pub count-view : {X Y : Type 0} (v : X → Y) (q : Y → Bool) (xs : List X) →
    count q (map v xs) ≡ count (λ x. q (v x)) xs
count-view v q [] = refl
count-view v q (x ∷ xs) = ap (λ n. cond (q (v x)) (1 + n) n) (count-view v q xs)

pub count-same : {X : Type 0} (p q : X → Bool) → ((x : X) → p x ≡ q x) → (xs : List X) →
    count p xs ≡ count q xs
count-same p q same [] = refl
count-same p q same (x ∷ xs) = λ i. cond (same x i) (1 + count-same p q same xs i)
    (count-same p q same xs i)

pub map-both : {X Y Z : Type 0} (f : Y → Z) (g : X → Y) (xs : List X) →
    map f (map g xs) ≡ map (λ x. f (g x)) xs
map-both f g [] = refl
map-both f g (x ∷ xs) = ap (λ ys. f (g x) ∷ ys) (map-both f g xs)

pub map-push : {X Y : Type 0} (f : X → Y) (xs ys : List X) → map f (xs ++ ys) ≡ map f xs ++ map f ys
map-push f [] ys = refl
map-push f (x ∷ xs) ys = ap (λ zs. f x ∷ zs) (map-push f xs ys)

-- an edit that a test doesn't see, and that is another one on what passes the test
pub filter-map : {X : Type 0} (p : X → Bool) (u v : X → X) → ((x : X) → p (u x) ≡ p x) →
    ((x : X) → p x ≡ true → u x ≡ v x) → (xs : List X) → filter p (map u xs) ≡ map v (filter p xs)
filter-map p u v same like [] = refl
filter-map {X} p u v same like (x ∷ xs) =
    ap (λ b. cond b (u x ∷ filter p (map u xs)) (filter p (map u xs))) (same x)
    ∙ (let step : (b : Bool) → p x ≡ b →
    cond b (u x ∷ filter p (map u xs)) (filter p (map u xs))
    ≡ map v (cond b (x ∷ filter p xs) (filter p xs)) =
    elim [
      | true ↦ (λ e i. like x e i ∷ filter-map p u v same like xs i)
      | false ↦ (λ e. filter-map p u v same like xs)
    ] in step (p x) refl)

pub map_same : {X : Type 0} (xs : List X) → map (λ x. x) xs ≡ xs
map_same [] = refl
map_same (x ∷ xs) = ap (λ ys. x ∷ ys) (map_same xs)

pub any-push : {X : Type 0} (p : X → Bool) (xs : List X) (y : X) →
    list_any p (xs ++ y ∷ []) ≡ (p y || list_any p xs)
any-push p [] y = refl
any-push p (x ∷ xs) y =
    ap (λ b. p x || b) (any-push p xs y)
    ∙ elim (p x) as (λ b. (b || (p y || list_any p xs)) ≡ (p y || (b || list_any p xs))) [
      | true ↦ elim (p y) as (λ c. true ≡ (c || true)) [ true ↦ refl | false ↦ refl ]
      | false ↦ refl
    ]

pub filter-push_in : {X : Type 0} (p : X → Bool) (xs : List X) (y : X) → p y ≡ true →
    filter p (xs ++ y ∷ []) ≡ filter p xs ++ y ∷ []
filter-push_in p xs y e = filter-append p xs (y ∷ [])
    ∙ ap (λ b. filter p xs ++ cond b (y ∷ []) []) e

pub filter-push_out : {X : Type 0} (p : X → Bool) (xs : List X) (y : X) → p y ≡ false →
    filter p (xs ++ y ∷ []) ≡ filter p xs
filter-push_out p xs y e =
    filter-append p xs (y ∷ [])
    ∙ (ap (λ b. filter p xs ++ cond b (y ∷ []) []) e ∙ append-nil (filter p xs))

-- a count of what passes a narrower test does not see the filter
pub count-filter : {X : Type 0} (p q : X → Bool) → ((x : X) → q x ≡ true → p x ≡ true) →
    (xs : List X) → count q (filter p xs) ≡ count q xs
count-filter p q narrower [] = refl
count-filter {X} p q narrower (x ∷ xs) =
    let step : (b c : Bool) → p x ≡ b → q x ≡ c →
    count q (cond b (x ∷ filter p xs) (filter p xs)) ≡ cond c (1 + count q xs) (count q xs) =
    elim [
      | true ↦ (λ c e d i. cond (d i) (1 + count-filter p q narrower xs i)
          (count-filter p q narrower xs i))
      | false ↦ elim [
        | true ↦ (λ e d. clash (p x) (narrower x d) e)
        | false ↦ (λ e d. count-filter p q narrower xs)
      ]
    ] in
    step (p x) (q x) refl refl

-- what a filter keeps passes
pub filter_all : {X : Type 0} (p : X → Bool) (xs : List X) → list_all p (filter p xs) ≡ true
filter_all p [] = refl
filter_all p (x ∷ xs) =
    elim (cases_Bool (p x)) [
      | inl kept ↦ rw kept (and_from (p x) (list_all p (filter p xs)) kept (filter_all p xs))
      | inr dropped ↦ rw dropped (filter_all p xs)
    ]

-- what is found through a filter passes it
pub found_passes : {X : Type 0} (p c : X → Bool) (xs : List X) (x : X) →
    find c (filter p xs) ≡ Some x → p x ≡ true
found_passes {X} p c [] x e = absurd (let h : ◌≡◌ {A = Option X} None (Some x) = e in cc)
found_passes {X} p c (y ∷ ys) x e =
    let step : (b d : Bool) → p y ≡ b → c y ≡ d →
    find c (cond b (y ∷ filter p ys) (filter p ys)) ≡ Some x →
    p x ≡ true =
    elim [
      | true ↦
          (λ d t u. (let inner : (d : Bool) → cond d (Some y) (find c (filter p ys)) ≡ Some x →
          p x ≡ true =
          elim [
            | true ↦ (λ f. ap p (sym (some_is y x f)) ∙ t)
            | false ↦
                (λ f. found_passes p c ys x f)
          ] in
          inner (c y)))
      | false ↦ (λ d t u f. found_passes p c ys x f)
    ] in
    step (p y) (c y) refl refl e

-- ---- each element has a property

abbrev pub Each : {X : Type 0} → (X → Type 0) → List X → Type 0
Each P [] = Unit {0}
Each P (x ∷ xs) = P x × Each P xs

-- what all have in two lists, all have in both together
pub each-push : {X : Type 0} (P : X → Type 0) (xs ys : List X) → Each P xs → Each P ys →
    Each P (xs ++ ys)
each-push P [] ys a b = b
each-push P (x ∷ xs) ys a b = (a.0, each-push P xs ys a.1 b)

pub each-map : {X Y : Type 0} (P : X → Type 0) (Q : Y → Type 0) (u : X → Y) →
    ((x : X) → P x → Q (u x)) → (xs : List X) → Each P xs → Each Q (map u xs)
each-map P Q u f [] a = tt
each-map P Q u f (x ∷ xs) a = (f x a.0, each-map P Q u f xs a.1)
