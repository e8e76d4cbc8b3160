-- Connections in their places: one of them does something, and the others don't.
use Rattle.std.proofs.Common.{◌≡◌, ◌≢◌, ◌<◌, ℕ, zero, suc, List, [], ◌∷◌, ◌++◌, Option, Some, None}
use Rattle.std.proofs.Common.{◌⊎◌, ◌∙◌, ap, arith, inl, inr, length, refl, sym, get_or, set, ⊎_elim}
use Rattle.acq_rounds.specs.Acts.{IsAmong}
use Rattle.std.specs.Prelude.{IfSome}
use Rattle.std.specs.List.{AllByRecursion}
use Rattle.acq_controls.specs.Aside.{Open}
use Rattle.acq_controls.specs.Following.{AreDistinct, IsHere}

-- what holds of those that are there
abbrev pub EachOpen : (Open → Type 0) → List (Option Open) → Type 0
EachOpen p places = AllByRecursion (λ place. IfSome place p) places

some_both : (place : Option Open) (p q : Open → Type 0) → ((o : Open) → p o → q o) →
    IfSome place p → IfSome place q
some_both None p q f h = tt
some_both (Some o) p q f h = f o h

pub each_both : (p q : Open → Type 0) (places : List (Option Open)) → ((o : Open) → p o → q o) →
    EachOpen p places → EachOpen q places
each_both p q [] f h = tt
each_both p q (x ∷ xs) f h = (some_both x p q f h.0, each_both p q xs f h.1)

-- of the one in a place
pub at_place : (p : Open → Type 0) (places : List (Option Open)) (i : ℕ) (o : Open) →
    get_or places i None ≡ Some o → EachOpen p places → p o
at_place p [] i o is h = absurd (none_some is)
  where
    none_some : None ≡ Some o → ⊥
    none_some e = cc
at_place p (x ∷ xs) zero o is h = subst_some x is h.0
  where
    subst_some : (x : Option Open) → x ≡ Some o → IfSome x p → p o
    subst_some None e q = absurd (none_some e)
      where
        none_some : None ≡ Some o → ⊥
        none_some e = cc
    subst_some (Some y) e q = let same : y ≡ o = cc in rw same at q
at_place p (x ∷ xs) (suc i) o is h = at_place p xs i o is h.1

-- something holds of it now, and of the others as before
pub put_in : (p : Open → Type 0) (places : List (Option Open)) (i : ℕ) (y : Option Open) →
    EachOpen p places → IfSome y p → EachOpen p (set places i y)
put_in p [] i y h q = tt
put_in p (x ∷ xs) zero y h q = (q, h.1)
put_in p (x ∷ xs) (suc i) y h q = (h.0, put_in p xs i y h.1 q)

-- where the one in a place did something that is nothing to those of another number
module _ (p q : Open → Type 0) (o : Open)
    (other : (x : Open) → x.number ≢ o.number → p x → q x) where
  apart_both : (places : List (Option Open)) → EachOpen (λ x. x.number ≢ o.number) places →
      EachOpen p places → EachOpen q places
  apart_both [] d h = tt
  apart_both (None ∷ xs) d h = (tt, apart_both xs d.1 h.1)
  apart_both (Some x ∷ xs) d h = (other x d.0 h.0, apart_both xs d.1 h.1)

  pub does : (places : List (Option Open)) (i : ℕ) (y : Option Open) →
      get_or places i None ≡ Some o → AreDistinct places → EachOpen p places → IfSome y q →
      EachOpen q (set places i y)
  does [] i y is d h new = tt
  does (None ∷ xs) zero y is d h new = absurd (none_some is)
    where
      none_some : None ≡ Some o → ⊥
      none_some e = cc
  does (Some x ∷ xs) zero y is d h new =
      let same : x ≡ o = cc in
      (new, apart_both xs (rw same at d.0) h.1)
  does (None ∷ xs) (suc i) y is d h new = (tt, does xs i y is d h.1 new)
  does (Some x ∷ xs) (suc i) y is d h new =
      let apart : o.number ≢ x.number =
      at_place (λ z. z.number ≢ x.number) xs i o is d.0 in
      (other x (λ e. apart (sym e)) h.0, does xs i y is d.1 h.1 new)

-- one that has the same number, or none, takes the place of one
pub distinct_put : (places : List (Option Open)) (i : ℕ) (o y : Open) →
    get_or places i None ≡ Some o → y.number ≡ o.number → AreDistinct places →
    AreDistinct (set places i (Some y))
distinct_put [] i o y is same d = tt
distinct_put (None ∷ xs) zero o y is same d = absurd (none_some is)
  where
    none_some : None ≡ Some o → ⊥
    none_some e = cc
distinct_put (Some x ∷ xs) zero o y is same d =
    let one : x ≡ o = cc in
    (rw same (rw one at d.0), d.1)
distinct_put (None ∷ xs) (suc i) o y is same d = distinct_put xs i o y is same d
distinct_put (Some x ∷ xs) (suc i) o y is same d =
    let apart : o.number ≢ x.number =
    at_place (λ z. z.number ≢ x.number) xs i o is d.0 in (
      put_in (λ z. z.number ≢ x.number) xs i (Some y) d.0 (rw same apart),
      distinct_put xs i o y is same d.1,
    )

pub distinct_free : (places : List (Option Open)) (i : ℕ) → AreDistinct places →
    AreDistinct (set places i None)
distinct_free [] i d = tt
distinct_free (None ∷ xs) zero d = d
distinct_free (Some x ∷ xs) zero d = d.1
distinct_free (None ∷ xs) (suc i) d = distinct_free xs i d
distinct_free (Some x ∷ xs) (suc i) d =
    (put_in (λ z. z.number ≢ x.number) xs i None d.0 tt, distinct_free xs i d.1)

-- one of a number that none has comes
pub distinct_new : (places : List (Option Open)) (i : ℕ) (y : Open) →
    EachOpen (λ x. x.number < y.number) places → AreDistinct places →
    AreDistinct (set places i (Some y))
distinct_new [] i y below d = tt
distinct_new (None ∷ xs) zero y below d =
    (each_both (λ x. x.number < y.number) (λ x. x.number ≢ y.number) xs (λ x l e. less l e) below.1, d)
  where
    less : {m n : ℕ} → m < n → m ≡ n → ⊥
    less l e = omega (arith, l, e)
distinct_new (Some x ∷ xs) zero y below d =
    (each_both (λ z. z.number < y.number) (λ z. z.number ≢ y.number) xs (λ z l e. less l e) below.1, d.1)
  where
    less : {m n : ℕ} → m < n → m ≡ n → ⊥
    less l e = omega (arith, l, e)
distinct_new (None ∷ xs) (suc i) y below d = distinct_new xs i y below.1 d
distinct_new (Some x ∷ xs) (suc i) y below d = (
  put_in (λ z. z.number ≢ x.number) xs i (Some y) d.0 (λ e. less below.0 (sym e)),
  distinct_new xs i y below.1 d.1,
)
  where
    less : {m n : ℕ} → m < n → m ≡ n → ⊥
    less l e = omega (arith, l, e)

-- ---- lists

pub each-append : {X : Type 0} (p : X → Type 0) (xs ys : List X) → AllByRecursion p xs →
    AllByRecursion p ys → AllByRecursion p (xs ++ ys)
each-append p [] ys h k = k
each-append p (x ∷ xs) ys h k = (h.0, each-append p xs ys h.1 k)

pub each_weaker : {X : Type 0} (p q : X → Type 0) (xs : List X) → ((x : X) → p x → q x) →
    AllByRecursion p xs → AllByRecursion q xs
each_weaker p q [] f h = tt
each_weaker p q (x ∷ xs) f h = (f x h.0, each_weaker p q xs f h.1)

pub each_with : {X : Type 0} (p r q : X → Type 0) (xs : List X) → ((x : X) → p x → r x → q x) →
    AllByRecursion p xs → AllByRecursion r xs → AllByRecursion q xs
each_with p r q [] f h k = tt
each_with p r q (x ∷ xs) f h k = (f x h.0 k.0, each_with p r q xs f h.1 k.1)

-- ---- which numbers are open

pub here_put : (k : ℕ) (places : List (Option Open)) (i : ℕ) (o y : Open) →
    get_or places i None ≡ Some o → y.number ≡ o.number → IsHere k places →
    IsHere k (set places i (Some y))
here_put k [] i o y is same h = absurd h
here_put k (None ∷ xs) zero o y is same h = absurd (none_some is)
  where
    none_some : None ≡ Some o → ⊥
    none_some e = cc
here_put k (Some x ∷ xs) zero o y is same (inl e) =
    let one : x ≡ o = cc in
    inl (same ∙ ap (λ (z : Open). z.number) (sym one) ∙ e)
here_put k (Some x ∷ xs) zero o y is same (inr h) = inr h
here_put k (None ∷ xs) (suc i) o y is same h = here_put k xs i o y is same h
here_put k (Some x ∷ xs) (suc i) o y is same (inl e) = inl e
here_put k (Some x ∷ xs) (suc i) o y is same (inr h) = inr (here_put k xs i o y is same h)

pub here_left : (k : ℕ) (places : List (Option Open)) (i : ℕ) (o : Open) →
    get_or places i None ≡ Some o → IsHere k places →
    (o.number ≡ k) ⊎ IsHere k (set places i None)
here_left k [] i o is h = absurd h
here_left k (None ∷ xs) zero o is h = inr h
here_left k (Some x ∷ xs) zero o is (inl e) =
    let one : x ≡ o = cc in
    inl (ap (λ (z : Open). z.number) (sym one) ∙ e)
here_left k (Some x ∷ xs) zero o is (inr h) = inr h
here_left k (None ∷ xs) (suc i) o is h = here_left k xs i o is h
here_left k (Some x ∷ xs) (suc i) o is (inl e) = inr (inl e)
here_left k (Some x ∷ xs) (suc i) o is (inr h) =
    ⊎_elim (λ e. inl e) (λ l. inr (inr l)) (here_left k xs i o is h)

pub here_still : (k : ℕ) (places : List (Option Open)) (i : ℕ) (y : Open) →
    get_or places i None ≡ None → IsHere k places → IsHere k (set places i (Some y))
here_still k [] i y is h = absurd h
here_still k (None ∷ xs) zero y is h = inr h
here_still k (Some x ∷ xs) zero y is h = absurd (some_none is)
  where
    some_none : Some x ≡ None → ⊥
    some_none e = cc
here_still k (None ∷ xs) (suc i) y is h = here_still k xs i y is h
here_still k (Some x ∷ xs) (suc i) y is (inl e) = inl e
here_still k (Some x ∷ xs) (suc i) y is (inr h) = inr (here_still k xs i y is h)

pub here_now : (places : List (Option Open)) (i : ℕ) (y : Open) → i < length places →
    IsHere y.number (set places i (Some y))
here_now [] i y l = absurd (omega (arith, l))
here_now (x ∷ xs) zero y l = inl refl
here_now (None ∷ xs) (suc i) y l = here_now xs i y (omega (arith, l))
here_now (Some x ∷ xs) (suc i) y l = inr (here_now xs i y (omega (arith, l)))

pub among-append : (k : ℕ) (xs : List ℕ) (ys : List ℕ) → IsAmong k xs → IsAmong k (xs ++ ys)
among-append k [] ys h = absurd h
among-append k (x ∷ xs) ys (inl e) = inl e
among-append k (x ∷ xs) ys (inr h) = inr (among-append k xs ys h)

pub among_last : (k : ℕ) (xs : List ℕ) → IsAmong k (xs ++ k ∷ [])
among_last k [] = inl refl
among_last k (x ∷ xs) = inr (among_last k xs)
