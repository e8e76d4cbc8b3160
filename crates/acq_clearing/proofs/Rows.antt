-- Rows in a strict order, and what stands in it behind one of them.
use Rattle.std.proofs.Common.{◌≡◌, ◌⊎◌, ◌∙◌, Bool, true, false, true≢false, cond, inl, inr, List, []}
use Rattle.std.proofs.Common.{◌∷◌, ◌++◌, filter, refl, sym, ap, subst}
use Rattle.std.specs.Prelude.{◌||◌}
use Rattle.std.specs.List.{AllByRecursion}
use Rattle.acq_book.specs.Order.{put_in_order, in_order}
use Rattle.acq_clearing.proofs.Cleared.{all-filter, all-put, all-in_order}

module _ {X : Type 0} where
  filter_all : (p : X → Bool) (xs : List X) → AllByRecursion (λ x. p x ≡ true) xs →
      filter p xs ≡ xs
  filter_all p [] all = refl
  filter_all p (x ∷ xs) all =
      ap (λ b. cond b (x ∷ filter p xs) (filter p xs)) all.0
      ∙ ap (λ l. x ∷ l) (filter_all p xs all.1)

  filter_none : (p : X → Bool) (xs : List X) → AllByRecursion (λ x. p x ≡ false) xs →
      filter p xs ≡ []
  filter_none p [] all = refl
  filter_none p (x ∷ xs) all =
      ap (λ b. cond b (x ∷ filter p xs) (filter p xs)) all.0 ∙ filter_none p xs all.1

  pub all_weaker : (P Q : X → Type 0) → ((x : X) → P x → Q x) → (xs : List X) →
      AllByRecursion P xs → AllByRecursion Q xs
  all_weaker P Q f [] all = tt
  all_weaker P Q f (x ∷ xs) all = (f x all.0, all_weaker P Q f xs all.1)

  -- what holds of all, holds of one in their midst
  all_at : (P : X → Type 0) (front : List X) (x : X) (back : List X) →
      AllByRecursion P (front ++ x ∷ back) → P x
  all_at P [] x back all = all.0
  all_at P (y ∷ front) x back all = all_at P front x back all.1

module _ {X : Type 0} (before : X → X → Bool) (never : (a : X) → before a a ≡ false)
    (chain : (a b c : X) → before a b ≡ true → before b c ≡ true → before a c ≡ true) where
  abbrev pub IsBefore : X → X → Type 0
  IsBefore a b = before a b ≡ true

  abbrev pub IsApart : X → X → Type 0
  IsApart a b = IsBefore a b ⊎ IsBefore b a

  -- each is before all behind it
  abbrev pub Ascend : List X → Type 0
  Ascend [] = Unit {0}
  Ascend (x ∷ xs) = AllByRecursion (IsBefore x) xs × Ascend xs

  -- of any two, one is before the other
  abbrev pub AreApart : List X → Type 0
  AreApart [] = Unit {0}
  AreApart (x ∷ xs) = AllByRecursion (IsApart x) xs × AreApart xs

  not_back : (a b : X) → IsBefore a b → before b a ≡ false
  not_back a b h = go (before b a) refl
    where
      go : (c : Bool) → before b a ≡ c → before b a ≡ false
      go false is = is
      go true is = absurd (true≢false (sym (chain a b a h is) ∙ never a))

  -- ---- put in order

  ascend_put : (x : X) (ys : List X) → Ascend ys → AllByRecursion (IsApart x) ys →
      Ascend (put_in_order before x ys)
  ascend_put x [] up apart = (tt, tt)
  ascend_put x (y ∷ ys) up apart = go (ascend_put x ys up.1 apart.1) (before y x) refl
    where
      first : before y x ≡ false → IsApart x y → IsBefore x y
      first is (inl less) = less
      first is (inr more) = absurd (true≢false (sym more ∙ is))

      go : Ascend (put_in_order before x ys) → (b : Bool) → before y x ≡ b →
          Ascend (cond b (y ∷ put_in_order before x ys) (x ∷ y ∷ ys))
      go rest true is = (all-put (IsBefore y) before x ys is up.0, rest)
      go rest false is =
          let less = first is apart.0 in
          ((less, all_weaker (IsBefore y) (IsBefore x) (λ z h. chain x y z less h) ys up.0), up)

  pub ascend_in_order : (xs : List X) → AreApart xs → Ascend (in_order before xs)
  ascend_in_order [] apart = tt
  ascend_in_order (x ∷ xs) apart =
      ascend_put x (in_order before xs) (ascend_in_order xs apart.1)
      (all-in_order (IsApart x) before xs apart.0)

  -- ---- what passes a test, in order

  put_front : (x : X) (zs : List X) → AllByRecursion (λ z. before z x ≡ false) zs →
      put_in_order before x zs ≡ x ∷ zs
  put_front x [] all = refl
  put_front x (z ∷ zs) all =
      ap (λ b. cond b (z ∷ put_in_order before x zs) (x ∷ z ∷ zs)) all.0

  module _ (q : X → Bool) where
    abbrev kept_if : Bool → X → List X → List X
    kept_if b x ys = cond b (put_in_order before x ys) ys

    filter-put : (x : X) (ys : List X) → Ascend ys →
        filter q (put_in_order before x ys) ≡ kept_if (q x) x (filter q ys)
    filter-put x [] up = elim (q x) as (λ b. cond b (x ∷ []) [] ≡ kept_if b x [])
        [ true ↦ refl | false ↦ refl ]
    filter-put x (y ∷ ys) up = go (filter-put x ys up.1) (before y x) refl
      where
        low : before y x ≡ false → (z : X) → IsBefore y z → before z x ≡ false
        low is z h = at (before z x) refl
          where
            at : (c : Bool) → before z x ≡ c → before z x ≡ false
            at false e = e
            at true e = absurd (true≢false (sym (chain y z x h e) ∙ is))

        further : before y x ≡ true → (a b : Bool) → q x ≡ a → q y ≡ b →
            cond b (y ∷ kept_if a x (filter q ys)) (kept_if a x (filter q ys))
            ≡ kept_if a x (cond b (y ∷ filter q ys) (filter q ys))
        further is true true e f =
            sym (ap (λ c. cond c (y ∷ put_in_order before x (filter q ys))
            (x ∷ y ∷ filter q ys)) is)
        further is true false e f = refl
        further is false true e f = refl
        further is false false e f = refl

        go : filter q (put_in_order before x ys) ≡ kept_if (q x) x (filter q ys) →
            (b : Bool) → before y x ≡ b →
            filter q (cond b (y ∷ put_in_order before x ys) (x ∷ y ∷ ys))
            ≡ kept_if (q x) x (filter q (y ∷ ys))
        go rest true is =
            ap (λ l. cond (q y) (y ∷ l) l) rest ∙ further is (q x) (q y) refl refl
        go rest false is =
            let front = put_front x (filter q (y ∷ ys))
            (all-filter (λ z. before z x ≡ false) q (y ∷ ys)
            (is, all_weaker (IsBefore y) (λ z. before z x ≡ false) (low is) ys up.0)) in
            ap (λ l. cond (q x) l (filter q (y ∷ ys))) (sym front)

    pub filter-in_order : (xs : List X) → AreApart xs →
        filter q (in_order before xs) ≡ in_order before (filter q xs)
    filter-in_order [] apart = refl
    filter-in_order (x ∷ xs) apart =
        filter-put x (in_order before xs) (ascend_in_order xs apart.1)
        ∙ ap (λ l. kept_if (q x) x l) (filter-in_order xs apart.1)
        ∙ elim (q x) as (λ b. kept_if b x (in_order before (filter q xs))
        ≡ in_order before (cond b (x ∷ filter q xs) (filter q xs))) [ true ↦ refl | false ↦ refl ]

    -- ---- what stands behind one

    -- of a test that all pass which stand behind one that does: behind a row that passes stands
    -- what follows it among those that pass
    pub rest_behind : ((a b : X) → IsBefore a b → q a ≡ true → q b ≡ true) → (xs : List X) →
        Ascend xs → (front : List X) (x : X) (back : List X) →
        filter q xs ≡ front ++ x ∷ back → filter (before x) xs ≡ back
    rest_behind up [] rises [] x back is = absurd (nil_cons x back is)
      where
        nil_cons : (x : X) (back : List X) → ◌≡◌ {A = List X} [] (x ∷ back) → ⊥
        nil_cons x back e = cc
    rest_behind up [] rises (f ∷ front) x back is = absurd (nil_cons f (front ++ x ∷ back) is)
      where
        nil_cons : (x : X) (back : List X) → ◌≡◌ {A = List X} [] (x ∷ back) → ⊥
        nil_cons x back e = cc
    rest_behind up (s ∷ ss) rises front x back is =
        go (λ fs e. rest_behind up ss rises.1 fs x back e) (q s) refl front is
      where
        Rest : Type 0
        Rest = (fs : List X) → filter q ss ≡ fs ++ x ∷ back → filter (before x) ss ≡ back

        later : Rest → (fs : List X) → filter q ss ≡ fs ++ x ∷ back →
            cond (before x s) (s ∷ filter (before x) ss) (filter (before x) ss) ≡ back
        later rest fs e =
            let low : IsBefore s x =
            all_at (IsBefore s) fs x back
            (subst (AllByRecursion (IsBefore s)) e (all-filter (IsBefore s) q ss rises.0)) in
            ap (λ b. cond b (s ∷ filter (before x) ss) (filter (before x) ss)) (not_back s x low)
            ∙ rest fs e

        go : Rest → (b : Bool) → q s ≡ b → (fs : List X) →
            cond b (s ∷ filter q ss) (filter q ss) ≡ fs ++ x ∷ back →
            cond (before x s) (s ∷ filter (before x) ss) (filter (before x) ss) ≡ back
        go more false fails fs e = later more fs e
        go more true passes (f ∷ fs) e =
            let rest : filter q ss ≡ fs ++ x ∷ back = cc in later more fs rest
        go more true passes [] e =
            let same : s ≡ x = cc in
            let rest : filter q ss ≡ back = cc in
            ap (λ b. cond b (s ∷ filter (before x) ss) (filter (before x) ss))
            (ap (λ y. before x y) same ∙ never x)
            ∙ filter_all (before x) ss (subst (λ y. AllByRecursion (IsBefore y) ss) same rises.0)
            ∙ sym (filter_all q ss (all_weaker (IsBefore s) (λ z. q z ≡ true)
            (λ z h. up s z h passes) ss rises.0))
            ∙ rest

  -- a test in two parts, of which all pass the second that stand behind one that does
  pub in_two : (q a b : X → Bool) → ((x : X) → q x ≡ (a x || b x)) →
      ((x : X) → b x ≡ true → a x ≡ false) →
      ((x y : X) → IsBefore x y → b x ≡ true → b y ≡ true) →
      (xs : List X) → Ascend xs → filter a xs ++ filter b xs ≡ filter q xs
  in_two q a b is apart up [] rises = refl
  in_two q a b is apart up (s ∷ ss) rises =
      go (in_two q a b is apart up ss rises.1) (a s) (b s) refl refl
      ∙ ap (λ c. cond c (s ∷ filter q ss) (filter q ss)) (sym (is s))
    where
      go : filter a ss ++ filter b ss ≡ filter q ss → (c d : Bool) → a s ≡ c → b s ≡ d →
          cond c (s ∷ filter a ss) (filter a ss) ++ cond d (s ∷ filter b ss) (filter b ss)
          ≡ cond (c || d) (s ∷ filter q ss) (filter q ss)
      go rest true true e f = absurd (true≢false (sym e ∙ apart s f))
      go rest true false e f = ap (λ l. s ∷ l) rest
      go rest false true e f =
          let none : filter a ss ≡ [] =
          filter_none a ss (all_weaker (IsBefore s) (λ z. a z ≡ false)
          (λ z h. apart z (up s z h f)) ss rises.0) in
          ap (λ l. l ++ s ∷ filter b ss) none
          ∙ ap (λ l. s ∷ l) (ap (λ l. l ++ filter b ss) (sym none) ∙ rest)
      go rest false false e f = rest
