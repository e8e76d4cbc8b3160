-- Rows that rise by a key which comes once are the rows in order.
use Rattle.std.proofs.Common.{◌≡◌, ◌==◌, ◌⊎◌, ◌&&◌, ◌≤◌, Bool, inl, inr, true, false, true≢false}
use Rattle.std.proofs.Common.{cond, ℕ, pos, List}
use Rattle.std.proofs.Common.{[], ◌∷◌, filter}
use Rattle.std.proofs.Common.{length, Ordering, Less, Equal, Greater, refl, sym, ap, subst, ◌∙◌}
use Rattle.std.proofs.Common.{arith}
use Rattle.std.specs.Cmp.{IsTotalOrder}
use Rattle.std.specs.List.{AllByRecursion}
use Rattle.std.specs.List.Sorted.{IsPermutation}
use Rattle.std.specs.Str.{bytes_eq}
use Rattle.std.specs.Ordering.{is_lt, is_eq, is_gt, int_cmp, nat_cmp, ordering_reverse}
use Rattle.std.specs.Ordering.{ordering_then}
use Rattle.std.specs.Cmp.Lexicographic.{slice_cmp}
use Rattle.std.proofs.lemmas.Bool.Decides.{nat_tests}
use Rattle.std.proofs.lemmas.Cmp.{tied_itself}
use Rattle.std.proofs.lemmas.List.Sorted.{IsPermutation-sym, sum_by-IsPermutation}
use Rattle.std.proofs.lemmas.List.Sums.{length-filter}
use Rattle.std.proofs.lemmas.Map.Text.{is_eq-slice_cmp}
use Rattle.sqlite_value.specs.Order.{value_cmp}
use Rattle.sqlite_value.proofs.OrderLemmas.{value_cmp-Int}
use Rattle.sqlite_trees.specs.Tree.{IsAscending}
use Rattle.sqlite_sql.specs.Query.{Query, Output, output_cmp}
use Rattle.sqlite_sql.proofs.QueryLemmas.{output_cmp_total}
use Rattle.sqlite_rules.specs.Lists.{Has}
use Rattle.sqlite_rules.proofs.ListLemmas.{all_from, has_kept}
use Rattle.row_lemmas.specs.Values.{number}
use Rattle.row_lemmas.proofs.Elements.{has_permuted, one_order}
use Rattle.acq_book.specs.Order.{put_in_order, in_order}
use Rattle.acq_sql_rows.proofs.SameKeys.{bytes_back}

less_is : (o : Ordering) → is_lt o ≡ true → o ≡ Less
less_is Less h = refl
less_is Equal h = absurd (cc)
less_is Greater h = absurd (cc)

is_same_order : (o p : Ordering) → is_lt o ≡ is_lt p → is_eq o ≡ is_eq p → o ≡ p
is_same_order Less Less h k = refl
is_same_order Equal Equal h k = refl
is_same_order Greater Greater h k = refl
is_same_order Less Equal h k = absurd (true≢false h)
is_same_order Less Greater h k = absurd (true≢false h)
is_same_order Equal Less h k = absurd (true≢false k)
is_same_order Equal Greater h k = absurd (true≢false k)
is_same_order Greater Less h k = absurd (true≢false (sym h))
is_same_order Greater Equal h k = absurd (true≢false (sym k))

lesser : (a b : ℕ) → is_lt (int_cmp (pos a) (pos b)) ≡ is_lt (nat_cmp a b)
lesser a b = grind (arith, nat_tests)

equal : (a b : ℕ) → is_eq (int_cmp (pos a) (pos b)) ≡ is_eq (nat_cmp a b)
equal a b = grind (arith, nat_tests)

-- the order of values is that of their numbers
pub numbers_compare : (a b : ℕ) → value_cmp (number a) (number b) ≡ nat_cmp a b
numbers_compare a b =
    value_cmp-Int (pos a) (pos b)
    ∙ is_same_order (int_cmp (pos a) (pos b)) (nat_cmp a b) (lesser a b) (equal a b)

pub numbers_tied : (a b : ℕ) → nat_cmp a b ≡ Equal → (b == a) ≡ true
numbers_tied a b is = grind (arith, nat_tests, is)

pub texts_tied : (a b : List ℕ) → slice_cmp nat_cmp a b ≡ Equal → bytes_eq b a ≡ true
texts_tied a b is = bytes_back b a ∙ sym (is_eq-slice_cmp a b) ∙ ap is_eq is

-- by one key, and of one by another
pub both_tied : (o p : Ordering) → ordering_then o p ≡ Equal → (o ≡ Equal) × (p ≡ Equal)
both_tied Less p is = absurd (cc)
both_tied Equal p is = (refl, is)
both_tied Greater p is = absurd (cc)

-- what a query sorts by is a total order
pub sorted_total : {X : Type 0} (q : Query) (out : X → Output) →
    IsTotalOrder (λ a b. output_cmp q (out a) (out b))
sorted_total q out =
    let o = output_cmp_total q in
    record {
      antisymm = λ a b. o.antisymm (out a) (out b);
      trans = λ a b c. o.trans (out a) (out b) (out c);
      congr = λ a b c. o.congr (out a) (out b) (out c);
    }

-- ---- those that pass a test, and how many

-- all pass where it asks nothing
pub filter_all : {X : Type 0} (xs : List X) → filter (λ x. true) xs ≡ xs
filter_all [] = refl
filter_all (x ∷ xs) = ap (λ l. x ∷ l) (filter_all xs)

passing_permuted : {X : Type 0} (p : X → Bool) (xs ys : List X) → IsPermutation xs ys
    → length (filter p ys) ≡ length (filter p xs)
passing_permuted p xs ys same =
    length-filter p ys ∙ sum_by-IsPermutation (λ x. cond (p x) 1 0) xs ys same
    ∙ sym (length-filter p xs)

pub filter_both : {X : Type 0} (p q : X → Bool) (xs : List X) →
    filter q (filter p xs) ≡ filter (λ x. p x && q x) xs
filter_both p q [] = refl
filter_both p q (x ∷ xs) =
    let rest = filter_both p q xs in
    elim (p x)
    as (λ b. filter q (cond b (x ∷ filter p xs) (filter p xs))
    ≡ cond (b && q x) (x ∷ filter (λ y. p y && q y) xs) (filter (λ y. p y && q y) xs))
    [ true ↦ ap (λ l. cond (q x) (x ∷ l) l) rest | false ↦ rest ]

-- fewer pass a narrower test
pub fewer : {X : Type 0} (p q : X → Bool) → ((x : X) → p x ≡ true → q x ≡ true) → (xs : List X)
    → length (filter p xs) ≤ length (filter q xs)
fewer p q narrower [] = omega arith
fewer p q narrower (x ∷ xs) = go (p x) (q x) (narrower x) (fewer p q narrower xs)
  where
    go : (b c : Bool) → (b ≡ true → c ≡ true) → length (filter p xs) ≤ length (filter q xs)
        → length (cond b (x ∷ filter p xs) (filter p xs))
        ≤ length (cond c (x ∷ filter q xs) (filter q xs))
    go true true over rest = omega (arith, rest)
    go true false over rest = absurd (true≢false (sym (over refl)))
    go false true over rest = omega (arith, rest)
    go false false over rest = rest

some_there : {X : Type 0} (xs : List X) (x : X) → Has xs x → 1 ≤ length xs
some_there [] x h = absurd h
some_there (y ∷ xs) x h = omega arith

all_both : {X : Type 0} (P Q S : X → Type 0) → ((x : X) → P x → Q x → S x) → (xs : List X) →
    AllByRecursion P xs
    → AllByRecursion Q xs → AllByRecursion S xs
all_both P Q S f [] p q = tt
all_both P Q S f (x ∷ xs) p q = (f x p.0 q.0, all_both P Q S f xs p.1 q.1)

module _ {X : Type 0} (cmp : X → X → Ordering) (order : IsTotalOrder cmp) (before : X → X → Bool)
    (tells : (a b : X) → is_lt (cmp a b) ≡ before a b) (same : X → X → Bool)
    (tied : (a b : X) → cmp a b ≡ Equal → same a b ≡ true) where
  abbrev IsBefore : X → X → Type 0
  IsBefore a b = cmp a b ≡ Less

  abbrev AreApart : X → X → Type 0
  AreApart a b = (cmp a b ≡ Less) ⊎ (cmp b a ≡ Less)

  never_both : (a b : X) → IsBefore a b → IsBefore b a → ⊥
  never_both a b h k = let e : Less ≡ Greater = sym h ∙ order.antisymm a b ∙ ap ordering_reverse k
      in cc

  -- no key comes twice
  abbrev pub ComesOnce : List X → Type 0
  ComesOnce xs = (a : X) → length (filter (same a) xs) ≤ 1

  own_key : (a : X) → same a a ≡ true
  own_key a = tied a a (tied_itself order a)

  apart_from : (x : X) (xs : List X) → length (filter (same x) (x ∷ xs)) ≤ 1 → (u : X) → Has xs u →
      AreApart x u
  apart_from x xs few u here = go (cmp x u) refl
    where
      go : (o : Ordering) → cmp x u ≡ o → AreApart x u
      go Less is = inl is
      go Greater is = inr (order.antisymm u x ∙ ap ordering_reverse is)
      go Equal is =
          let there = has_kept (same x) xs u here (tied x u is) in
          let two : length (filter (same x) (x ∷ xs)) ≡ length (x ∷ filter (same x) xs) =
          ap (λ b. length (cond b (x ∷ filter (same x) xs) (filter (same x) xs))) (own_key x) in
          absurd (omega (arith, some_there (filter (same x) xs) u there, two, few))

  apart : (xs : List X) → ComesOnce xs → IsAscending AreApart xs
  apart [] once = tt
  apart (x ∷ xs) once =
      (all_from (AreApart x) xs (apart_from x xs (once x)), apart xs (λ a. fewer a (once a)))
    where
      fewer : (a : X) → length (filter (same a) (x ∷ xs)) ≤ 1 → length (filter (same a) xs) ≤ 1
      fewer a =
          elim (same a x)
          as (λ b. length (cond b (x ∷ filter (same a) xs) (filter (same a) xs)) ≤ 1 →
          length (filter (same a) xs) ≤ 1)
          [ true ↦ (λ h. omega (arith, h)) | false ↦ (λ h. h) ]

  rising : (ys : List X) → IsAscending (λ a b. is_gt (cmp a b) ≡ false) ys → IsAscending AreApart ys
      → IsAscending IsBefore ys
  rising [] up apart = tt
  rising (y ∷ ys) up apart =
      (all_both _ (AreApart y) (IsBefore y) one ys up.0 apart.0, rising ys up.1 apart.1)
    where
      one : (u : X) → is_gt (cmp y u) ≡ false → AreApart y u → IsBefore y u
      one u low (inl less) = less
      one u low (inr more) =
          absurd (true≢false (sym (ap is_gt (order.antisymm y u ∙ ap ordering_reverse more)) ∙ low))

  -- ---- rows put in order

  all_put : (P : X → Type 0) (x : X) (ys : List X) → P x → AllByRecursion P ys
      → AllByRecursion P (put_in_order before x ys)
  all_put P x [] p a = (p, tt)
  all_put P x (y ∷ ys) p a =
      elim (before y x) as
      (λ b. AllByRecursion P (cond b (y ∷ put_in_order before x ys) (x ∷ y ∷ ys)))
      [ true ↦ (a.0, all_put P x ys p a.1) | false ↦ (p, a) ]

  all_in_order : (P : X → Type 0) (xs : List X) → AllByRecursion P xs →
      AllByRecursion P (in_order before xs)
  all_in_order P [] a = tt
  all_in_order P (x ∷ xs) a = all_put P x (in_order before xs) a.0 (all_in_order P xs a.1)

  rising_put : (x : X) (ys : List X) → IsAscending IsBefore ys → AllByRecursion (AreApart x) ys
      → IsAscending IsBefore (put_in_order before x ys)
  rising_put x [] up apart = (tt, tt)
  rising_put x (y ∷ ys) up apart = go (before y x) refl (rising_put x ys up.1 apart.1) apart.0
    where
      first : before y x ≡ false → AreApart x y → IsBefore x y
      first is (inl less) = less
      first is (inr more) = absurd (true≢false (sym (ap is_lt more) ∙ tells y x ∙ is))

      go : (b : Bool) → before y x ≡ b → IsAscending IsBefore (put_in_order before x ys) →
          AreApart x y
          → IsAscending IsBefore (cond b (y ∷ put_in_order before x ys) (x ∷ y ∷ ys))
      go true is rest apart =
          (all_put (IsBefore y) x ys (less_is (cmp y x) (tells y x ∙ is)) up.0, rest)
      go false is rest apart =
          let less = first is apart in (
            (
              less,
              all_both (IsBefore y) (IsBefore y) (IsBefore x)
                  (λ u h k. order.trans x y u less h) ys up.0 up.0,
            ),
            up,
          )

  rising_in_order : (xs : List X) → IsAscending AreApart xs →
      IsAscending IsBefore (in_order before xs)
  rising_in_order [] apart = tt
  rising_in_order (x ∷ xs) apart =
      rising_put x (in_order before xs) (rising_in_order xs apart.1)
      (all_in_order (AreApart x) xs apart.0)

  has_put : (x : X) (ys : List X) (z : X) → (z ≡ x) ⊎ Has ys z → Has (put_in_order before x ys) z
  has_put x [] z h = h
  has_put x (y ∷ ys) z h =
      elim (before y x) as (λ b. Has (cond b (y ∷ put_in_order before x ys) (x ∷ y ∷ ys)) z)
      [ true ↦ go (has_put x ys z) h | false ↦ h ]
    where
      go : ((z ≡ x) ⊎ Has ys z → Has (put_in_order before x ys) z) → (z ≡ x) ⊎ Has (y ∷ ys) z
          → Has (y ∷ put_in_order before x ys) z
      go later (inl is) = inr (later (inl is))
      go later (inr (inl is)) = inl is
      go later (inr (inr there)) = inr (later (inr there))

  put_has : (x : X) (ys : List X) (z : X) → Has (put_in_order before x ys) z → (z ≡ x) ⊎ Has ys z
  put_has x [] z = λ h. h
  put_has x (y ∷ ys) z =
      elim (before y x) as (λ b. Has (cond b (y ∷ put_in_order before x ys) (x ∷ y ∷ ys)) z →
      (z ≡ x) ⊎ Has (y ∷ ys) z)
      [ true ↦ go (put_has x ys z) | false ↦ (λ h. h) ]
    where
      go : (Has (put_in_order before x ys) z → (z ≡ x) ⊎ Has ys z) →
          Has (y ∷ put_in_order before x ys) z
          → (z ≡ x) ⊎ Has (y ∷ ys) z
      go later (inl is) = inr (inl is)
      go later (inr there) =
          elim (later there) [ inl is ↦ inl is | inr further ↦ inr (inr further) ]

  has_in_order : (xs : List X) (z : X) → Has xs z → Has (in_order before xs) z
  has_in_order [] z h = h
  has_in_order (x ∷ xs) z (inl is) = has_put x (in_order before xs) z (inl is)
  has_in_order (x ∷ xs) z (inr there) = has_put x (in_order before xs) z
      (inr (has_in_order xs z there))

  pub in_order_has : (xs : List X) (z : X) → Has (in_order before xs) z → Has xs z
  in_order_has [] z h = h
  in_order_has (x ∷ xs) z h = elim (put_has x (in_order before xs) z h) [
    | inl is ↦ inl is
    | inr there ↦ inr (in_order_has xs z there)
  ]

  -- what ORDER BY gives of rows whose key comes once
  pub ordered_is : (xs ys : List X) → IsPermutation xs ys →
      IsAscending (λ a b. is_gt (cmp a b) ≡ false) ys
      → ComesOnce xs → ys ≡ in_order before xs
  ordered_is xs ys moved up once =
      let once_ys : ComesOnce ys =
      λ a. subst (λ n. n ≤ 1) (sym (passing_permuted (same a) xs ys moved)) (once a) in
      one_order IsBefore never_both ys (in_order before xs) (rising ys up (apart ys once_ys))
      (rising_in_order xs (apart xs once))
      (λ z h. has_in_order xs z (has_permuted ys xs z (IsPermutation-sym xs ys moved) h))
      (λ z h. has_permuted xs ys z moved (in_order_has xs z h))
