-- Lists of which something holds, and lists of numbers.
use Rattle.std.proofs.Common.{◌≡◌, ◌≢◌, ◌⊎◌, inl, inr, ◌<◌, ◌==◌, ◌+◌, ℕ, true, false, List}
use Rattle.std.proofs.Common.{[], ◌∷◌, ◌++◌, length, refl, sym, arith, set, get_or, zero}
use Rattle.std.proofs.Common.{reverse, suc}
use Rattle.std.proofs.lemmas.List.{reverse-append}
use Rattle.std.proofs.lemmas.Bool.Decides.{nat_tests}
use Rattle.std.specs.List.{AllByRecursion}
use Rattle.acq_rounds.specs.Acts.{Connection, Distinct, IsAmong, IsOther, numbers}

module _ {X : Type 0} where
  pub all-append : (P : X → Type 0) (xs ys : List X) → AllByRecursion P xs → AllByRecursion P ys →
      AllByRecursion P (xs ++ ys)
  all-append P [] ys h k = k
  all-append P (x ∷ xs) ys h k = (h.0, all-append P xs ys h.1 k)

  pub all_left : (P : X → Type 0) (xs ys : List X) → AllByRecursion P (xs ++ ys) →
      AllByRecursion P xs
  all_left P [] ys h = tt
  all_left P (x ∷ xs) ys h = (h.0, all_left P xs ys h.1)

  pub all_right : (P : X → Type 0) (xs ys : List X) → AllByRecursion P (xs ++ ys) →
      AllByRecursion P ys
  all_right P [] ys h = h
  all_right P (x ∷ xs) ys h = all_right P xs ys h.1

  pub all_weaker : (P Q : X → Type 0) (xs : List X) → ((x : X) → P x → Q x) →
      AllByRecursion P xs → AllByRecursion Q xs
  all_weaker P Q [] f h = tt
  all_weaker P Q (x ∷ xs) f h = (f x h.0, all_weaker P Q xs f h.1)

  pub all_both : (P Q R : X → Type 0) (xs : List X) → ((x : X) → P x → Q x → R x) →
      AllByRecursion P xs → AllByRecursion Q xs → AllByRecursion R xs
  all_both P Q R [] f h k = tt
  all_both P Q R (x ∷ xs) f h k = (f x h.0 k.0, all_both P Q R xs f h.1 k.1)

  pub all_set : (P : X → Type 0) (xs : List X) (i : ℕ) (y d : X) → (P (get_or xs i d) → P y) →
      AllByRecursion P xs → AllByRecursion P (set xs i y)
  all_set P [] i y d f h = tt
  all_set P (x ∷ xs) zero y d f h = (f h.0, h.1)
  all_set P (x ∷ xs) (suc i) y d f h = (h.0, all_set P xs i y d f h.1)

  pub all_without : (P : X → Type 0) (xs : List X) (x : X) (ys : List X) →
      AllByRecursion P (xs ++ x ∷ ys) → AllByRecursion P (xs ++ ys)
  all_without P xs x ys h =
      all-append P xs ys (all_left P xs (x ∷ ys) h) (all_right P xs (x ∷ ys) h).1

  pub empty : (l : List X) → length l ≡ 0 → l ≡ []
  empty [] e = refl
  empty (y ∷ l) e = absurd (bad e) where
    bad : length (y ∷ l) ≡ 0 → ⊥
    bad e = omega (arith, e)

pub reverse_last : {X : Type 0} (xs : List X) (x : X) → reverse (xs ++ x ∷ []) ≡ x ∷ reverse xs
reverse_last xs x = reverse-append xs (x ∷ [])

-- ---- numbers

pub same : (k : ℕ) → (k == k) ≡ true
same k = grind (arith, nat_tests)

pub differs : (j k : ℕ) → j ≢ k → (j == k) ≡ false
differs j k h = grind (arith, nat_tests)

pub not_below : (k count : ℕ) → k < count → k ≡ count → ⊥
not_below k count l e = omega (arith, l, e)

pub distinct_without : (xs : List ℕ) (x : ℕ) (ys : List ℕ) → Distinct (xs ++ x ∷ ys) →
    Distinct (xs ++ ys)
distinct_without [] x ys d = d.1
distinct_without (z ∷ xs) x ys d =
    (all_without (λ j. j ≢ z) xs x ys d.0, distinct_without xs x ys d.1)

pub distinct_apart : (xs : List ℕ) (x : ℕ) (ys : List ℕ) → Distinct (xs ++ x ∷ ys) →
    IsOther x (xs ++ ys)
distinct_apart [] x ys d = d.0
distinct_apart (z ∷ xs) x ys d =
    ((λ e. (all_right (λ j. j ≢ z) xs (x ∷ ys) d.0).0 (sym e)), distinct_apart xs x ys d.1)

-- each of these is another than x
pub distinct_more : (ks : List ℕ) (x : ℕ) → Distinct ks → AllByRecursion (λ k. x ≢ k) ks →
    Distinct (ks ++ x ∷ [])
distinct_more [] x d o = (tt, tt)
distinct_more (k ∷ ks) x d o =
    (all-append (λ j. j ≢ k) ks (x ∷ []) d.0 (o.0, tt), distinct_more ks x d.1 o.1)

pub distinct_push : (ks : List ℕ) (count : ℕ) → Distinct ks → AllByRecursion (λ k. k < count) ks →
    Distinct (ks ++ count ∷ [])
distinct_push [] count d b = (tt, tt)
distinct_push (k ∷ ks) count d b = (
  all-append (λ j. j ≢ k) ks (count ∷ []) d.0 ((λ e. not_below k count b.0 (sym e)), tt),
  distinct_push ks count d.1 b.1,
)

pub below_or : (k count : ℕ) → k < count + 1 → (k < count) ⊎ (count ≡ k)
below_or k count l = grind (arith, l)

-- ---- who is among them

pub either_more : (A B C : Type 0) → (B → C) → A ⊎ B → A ⊎ C
either_more A B C f (inl a) = inl a
either_more A B C f (inr b) = inr (f b)

pub among_left : (k : ℕ) (xs ys : List Connection) → IsAmong k (numbers xs) →
    IsAmong k (numbers (xs ++ ys))
among_left k [] ys q = absurd q
among_left k (x ∷ xs) ys (inl e) = inl e
among_left k (x ∷ xs) ys (inr q) = inr (among_left k xs ys q)

pub among_right : (k : ℕ) (xs ys : List Connection) → IsAmong k (numbers ys) →
    IsAmong k (numbers (xs ++ ys))
among_right k [] ys q = q
among_right k (x ∷ xs) ys q = inr (among_right k xs ys q)

pub among_without : (k : ℕ) (xs : List Connection) (x : Connection) (ys : List Connection) →
    IsAmong k (numbers (xs ++ x ∷ ys)) → (x.number ≡ k) ⊎ IsAmong k (numbers (xs ++ ys))
among_without k [] x ys q = q
among_without k (z ∷ xs) x ys (inl e) = inr (inl e)
among_without k (z ∷ xs) x ys (inr q) =
    either_more (x.number ≡ k) (IsAmong k (numbers (xs ++ ys)))
    (IsAmong k (numbers ((z ∷ xs) ++ ys))) (λ p. inr p) (among_without k xs x ys q)
