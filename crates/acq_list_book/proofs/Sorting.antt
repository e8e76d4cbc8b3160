-- A stable sort gives the rows in order.
use Rattle.std.proofs.Common.{◌≡◌, ℕ, suc, ◌<◌, ◌≤◌, List, [], ◌∷◌, Bool, true, false, cond, refl}
use Rattle.std.proofs.Common.{sym, ap, ◌∙◌, subst}
use Rattle.std.proofs.Common.{map, length, get_or, arith, filter, true≢false}
use Rattle.std.specs.Prelude.{◌&&◌, not}
use Rattle.std.specs.List.{AllByRecursion}
use Rattle.std.specs.Cmp.{IsStrictWeakOrder}
use Rattle.std.specs.List.Sorted.{IsSortedBy, IsStableBy, ties}
use Rattle.std.proofs.lemmas.List.Sorted.{sorted_far}
use Rattle.std.proofs.Common.{Option, Some, None, eqb, nat_cmp, is_lt, nat_lt, Less, Equal, Greater}
use Rattle.std.specs.Option.{option_cmp}
use Rattle.acq_book.specs.Lookups.{is_reference_before}
use Rattle.acq_book.specs.Order.{put_in_order, in_order}

-- rows in order through a function
put-map : {X Y : Type 0} (f : X → Y) (before : Y → Y → Bool) (x : X) (ys : List X)
    → map f (put_in_order (λ a b. before (f a) (f b)) x ys) ≡ put_in_order before (f x) (map f ys)
put-map f before x [] = refl
put-map f before x (y ∷ ys) =
    elim (before (f y) (f x)) as
    (λ b. map f (cond b (y ∷ put_in_order (λ a b. before (f a) (f b)) x ys) (x ∷ y ∷ ys))
    ≡ cond b (f y ∷ put_in_order before (f x) (map f ys)) (f x ∷ f y ∷ map f ys)) [
      | true ↦ ap (λ l. f y ∷ l) (put-map f before x ys)
      | false ↦ refl
    ]

pub in_order-map : {X Y : Type 0} (f : X → Y) (before : Y → Y → Bool) (xs : List X)
    → map f (in_order (λ a b. before (f a) (f b)) xs) ≡ in_order before (map f xs)
in_order-map f before [] = refl
in_order-map f before (x ∷ xs) =
    put-map f before x (in_order (λ a b. before (f a) (f b)) xs)
    ∙ ap (put_in_order before (f x)) (in_order-map f before xs)

all-places : {X : Type 0} (P : X → Type 0) (d : X) (xs : List X) →
    ((j : ℕ) → j < length xs → P (get_or xs j d))
    → AllByRecursion P xs
all-places P d [] h = tt
all-places P d (x ∷ xs) h =
    (h 0 (omega arith), all-places P d xs (λ j within. h (suc j) (omega arith)))

-- what passes holds of the first that a filter leaves
head-holds : {X : Type 0} (P : X → Type 0) (t : X → Bool) (zs : List X) (y : X) (r : List X)
    → AllByRecursion P zs → filter t zs ≡ y ∷ r → P y
head-holds {X} P t [] y r = λ a e. absurd (let h : ◌≡◌ {A = List X} [] (y ∷ r) = e in cc)
head-holds {X} P t (z ∷ zs) y r =
    elim (t z) as (λ b. AllByRecursion P (z ∷ zs) → cond b (z ∷ filter t zs) (filter t zs) ≡ y ∷ r →
    P y) [
      | true ↦ (λ a e. let same : z ≡ y = cc in subst P same a.0)
      | false ↦ (λ a e. head-holds P t zs y r a.1 e)
    ]

module _ {X : Type 0} (lt : X → X → Bool) (o : IsStrictWeakOrder lt) where
  -- no later row is before an earlier one
  abbrev IsRising : List X → Type 0
  IsRising [] = Unit {0}
  IsRising (x ∷ xs) = AllByRecursion (λ u. lt u x ≡ false) xs × IsRising xs

  self-ties : (x : X) → ties lt x x ≡ true
  self-ties x =
      let none : lt x x ≡ false = at (lt x x) refl in
      λ i. not (none i) && not (none i)
    where
      at : (b : Bool) → lt x x ≡ b → lt x x ≡ false
      at true e = o.one_way x x e
      at false e = e

  rising : (xs : List X) → IsSortedBy lt xs → IsRising xs
  rising xs up = from xs (λ i j d. sorted_far lt o xs up i j d)
    where
      from : (ys : List X) →
          ((i j : ℕ) (d : X) → i ≤ j → j < length ys → lt (get_or ys j d) (get_or ys i d) ≡ false) →
          IsRising ys
      from [] h = tt
      from (y ∷ ys) h = (
        all-places (λ u. lt u y ≡ false) y ys
            (λ j within. h 0 (suc j) y (omega arith) (omega arith)),
        from ys (λ i j d le within. h (suc i) (suc j) d (omega arith) (omega arith)),
      )

  all-put : (P : X → Type 0) (x : X) (ys : List X) → P x → AllByRecursion P ys →
      AllByRecursion P (put_in_order lt x ys)
  all-put P x [] p a = (p, tt)
  all-put P x (y ∷ ys) p a =
      elim (lt y x) as (λ b. AllByRecursion P (cond b (y ∷ put_in_order lt x ys) (x ∷ y ∷ ys))) [
        | true ↦ (a.0, all-put P x ys p a.1)
        | false ↦ (p, a)
      ]

  all-chain : (x y : X) → lt y x ≡ false → (ys : List X) → AllByRecursion (λ u. lt u y ≡ false) ys
      → AllByRecursion (λ u. lt u x ≡ false) ys
  all-chain x y e [] a = tt
  all-chain x y e (z ∷ zs) a = (o.chain z y x a.0 e, all-chain x y e zs a.1)

  rising-put : (x : X) (ys : List X) → IsRising ys → IsRising (put_in_order lt x ys)
  rising-put x [] h = (tt, tt)
  rising-put x (y ∷ ys) h = at (rising-put x ys h.1) (lt y x) refl
    where
      at : IsRising (put_in_order lt x ys) → (b : Bool) → lt y x ≡ b →
          IsRising (cond b (y ∷ put_in_order lt x ys) (x ∷ y ∷ ys))
      at rest true e = (all-put (λ u. lt u y ≡ false) x ys (o.one_way y x e) h.0, rest)
      at rest false e = ((e, all-chain x y e ys h.0), h)

  rising-in_order : (xs : List X) → IsRising (in_order lt xs)
  rising-in_order [] = tt
  rising-in_order (x ∷ xs) = rising-put x (in_order lt xs) (rising-in_order xs)

  stable-put : (a x : X) (ys : List X) →
      filter (ties lt a) (put_in_order lt x ys) ≡ filter (ties lt a) (x ∷ ys)
  stable-put a x [] = refl
  stable-put a x (y ∷ ys) = at (stable-put a x ys) (lt y x) refl
    where
      swap : (b c : Bool) → (b && c) ≡ false → (l : List X)
          → cond c (y ∷ cond b (x ∷ l) l) (cond b (x ∷ l) l) ≡ cond b (x ∷ cond c (y ∷ l) l)
          (cond c (y ∷ l) l)
      swap true true e l = absurd (true≢false e)
      swap true false e l = refl
      swap false c e l = refl

      both : lt y x ≡ true → (b c d e : Bool) → lt a x ≡ b → lt x a ≡ c → lt a y ≡ d → lt y a ≡ e
          → ((not b && not c) && (not d && not e)) ≡ false
      both before true c d e p q r s = refl
      both before false true d e p q r s = refl
      both before false false true e p q r s = refl
      both before false false false true p q r s = refl
      both before false false false false p q r s =
          absurd (true≢false (sym before ∙ o.chain y a x s p))

      at : filter (ties lt a) (put_in_order lt x ys) ≡ filter (ties lt a) (x ∷ ys) → (b : Bool) →
          lt y x ≡ b
          → filter (ties lt a) (cond b (y ∷ put_in_order lt x ys) (x ∷ y ∷ ys)) ≡ filter (ties lt a)
          (x ∷ y ∷ ys)
      at rest true e =
          ap (λ l. cond (ties lt a y) (y ∷ l) l) rest
          ∙ swap (ties lt a x) (ties lt a y)
          (both e (lt a x) (lt x a) (lt a y) (lt y a) refl refl refl refl)
          (filter (ties lt a) ys)
      at rest false e = refl

  stable-in_order : (a : X) (xs : List X) →
      filter (ties lt a) (in_order lt xs) ≡ filter (ties lt a) xs
  stable-in_order a [] = refl
  stable-in_order a (x ∷ xs) =
      stable-put a x (in_order lt xs)
      ∙ ap (λ l. cond (ties lt a x) (x ∷ l) l) (stable-in_order a xs)

  -- rows that rise are told by their ties
  alike : (ys zs : List X) → IsRising ys → IsRising zs →
      ((a : X) → filter (ties lt a) ys ≡ filter (ties lt a) zs) →
      ys ≡ zs
  alike [] [] hy hz same = refl
  alike [] (z ∷ zs) hy hz same =
      absurd (let h : ◌≡◌ {A = List X} [] (z ∷ filter (ties lt z) zs) = same z
      ∙ ap (λ b. cond b (z ∷ filter (ties lt z) zs) (filter (ties lt z) zs)) (self-ties z) in cc)
  alike (y ∷ ys) [] hy hz same =
      absurd (let h : ◌≡◌ {A = List X} (y ∷ filter (ties lt y) ys) [] = sym
      (ap (λ b. cond b (y ∷ filter (ties lt y) ys) (filter (ties lt y) ys)) (self-ties y)) ∙ same y
      in cc)
  alike (y ∷ ys) (z ∷ zs) hy hz same =
      let first_y : filter (ties lt y) (y ∷ ys) ≡ y ∷ filter (ties lt y) ys =
      ap (λ b. cond b (y ∷ filter (ties lt y) ys) (filter (ties lt y) ys)) (self-ties y) in
      let first_z : filter (ties lt z) (z ∷ zs) ≡ z ∷ filter (ties lt z) zs =
      ap (λ b. cond b (z ∷ filter (ties lt z) zs) (filter (ties lt z) zs)) (self-ties z) in
      let least_z : lt y z ≡ false =
      head-holds (λ u. lt u z ≡ false) (ties lt y) (z ∷ zs) y (filter (ties lt y) ys)
      (itself z, hz.0)
      (sym (same y) ∙ first_y) in
      let least_y : lt z y ≡ false =
      head-holds (λ u. lt u y ≡ false) (ties lt z) (y ∷ ys) z (filter (ties lt z) zs)
      (itself y, hy.0)
      (same z ∙ first_z) in
      let tie : ties lt y z ≡ true = (λ i. not (least_z i) && not (least_y i)) in
      let heads : y ∷ filter (ties lt y) ys ≡ z ∷ filter (ties lt y) zs =
      sym first_y ∙ (same y ∙ ap (λ b. cond b (z ∷ filter (ties lt y) zs) (filter (ties lt y) zs))
      tie) in
      let head : y ≡ z = cc in
      λ i. head i ∷ alike ys zs hy.1 hz.1 (λ a. rest a head) i
    where
      itself : (x : X) → lt x x ≡ false
      itself x = at (lt x x) refl
        where
          at : (b : Bool) → lt x x ≡ b → lt x x ≡ false
          at true e = o.one_way x x e
          at false e = e

      rest : (a : X) → y ≡ z → filter (ties lt a) ys ≡ filter (ties lt a) zs
      rest a head = at (ties lt a y) (ties lt a z) (ap (ties lt a) head) (same a)
        where
          at : (b c : Bool) → b ≡ c → cond b (y ∷ filter (ties lt a) ys) (filter (ties lt a) ys)
              ≡ cond c (z ∷ filter (ties lt a) zs) (filter (ties lt a) zs) →
              filter (ties lt a) ys ≡ filter (ties lt a) zs
          at true true e whole = cc
          at true false e whole = absurd (true≢false e)
          at false true e whole = absurd (true≢false (sym e))
          at false false e whole = whole

  -- a stable sort gives the rows in order
  pub sorted-in_order : (xs ys : List X) → IsSortedBy lt ys → IsStableBy lt xs ys →
      ys ≡ in_order lt xs
  sorted-in_order xs ys up stable =
      alike ys (in_order lt xs) (rising ys up) (rising-in_order xs)
      (λ a. stable a ∙ sym (stable-in_order a xs))

-- references are in the order of options
pub reference-order : (a b : Option ℕ) → is_lt (option_cmp nat_cmp a b) ≡ is_reference_before a b
reference-order None None = refl
reference-order (Some n) None = refl
reference-order None (Some n) = refl
reference-order (Some n) (Some m) =
    elim (nat_lt n m) as (λ b. is_lt (cond b Less (cond (eqb n m) Equal Greater)) ≡ b) [
      | true ↦ refl
      | false ↦ elim (eqb n m) as (λ b. is_lt (cond b Equal Greater) ≡ false)
          [ true ↦ refl | false ↦ refl ]
    ]
