-- What ORDER BY a number gives of rows that rise by it: the same rows.
use Rattle.std.proofs.Common.{◌≡◌, ◌==◌, ◌<◌, ◌≤◌, ◌∙◌, ℕ, Bool, true, false, cond, List, [], ◌∷◌}
use Rattle.std.proofs.Common.{filter, length, nat_lt, refl, sym, ap, subst, arith}
use Rattle.std.specs.List.{AllByRecursion}
use Rattle.std.specs.List.Sorted.{IsPermutation}
use Rattle.std.specs.Ordering.{is_gt, is_lt, nat_cmp}
use Rattle.std.proofs.lemmas.Bool.Decides.{nat_tests}
use Rattle.sqlite_trees.specs.Tree.{IsAscending}
use Rattle.sqlite_sql.specs.Query.{Query, Output, output_cmp}
use Rattle.acq_book.specs.Order.{put_in_order, in_order}
use Rattle.acq_sql_reads.proofs.Ordering.{sorted_total, ordered_is, numbers_tied}

less_test : (a b : ℕ) → is_lt (nat_cmp a b) ≡ nat_lt a b
less_test a b = grind (arith, nat_tests)

is_other : (m n : ℕ) → m < n → (n == m) ≡ false
is_other m n low = grind (arith, nat_tests)

not_before : (m n : ℕ) → m ≤ n → nat_lt n m ≡ false
not_before m n low = grind (arith, nat_tests)

module _ {X : Type 0} (number_of : X → ℕ) where
  abbrev pub Precedes : X → X → Type 0
  Precedes a b = number_of a < number_of b

  abbrev precedes : X → X → Bool
  precedes a b = nat_lt (number_of a) (number_of b)

  -- none comes twice

  none_again : (n : ℕ) (xs : List X) → AllByRecursion (λ (x : X). n < number_of x) xs
      → filter (λ (x : X). number_of x == n) xs ≡ []
  none_again n [] above = refl
  none_again n (x ∷ xs) above =
      rw (is_other n (number_of x) above.0) (none_again n xs above.1)

  once : (n : ℕ) (xs : List X) → IsAscending Precedes xs
      → length (filter (λ (x : X). number_of x == n) xs) ≤ 1
  once n [] up = omega arith
  once n (x ∷ xs) up = go (number_of x == n) refl (once n xs up.1)
    where
      those : List X
      those = filter (λ (y : X). number_of y == n) xs

      go : (b : Bool) → (number_of x == n) ≡ b → length those ≤ 1
          → length (cond b (x ∷ those) those) ≤ 1
      go true is rest =
          let same : number_of x ≡ n = grind (arith, nat_tests, is) in
          let above = subst (λ k. AllByRecursion (λ (y : X). k < number_of y) xs) same up.0 in
          rw (none_again n xs above) (omega arith)
      go false is rest = rest

  -- what rises is in order

  first_put : (x : X) (xs : List X) → AllByRecursion (Precedes x) xs
      → put_in_order precedes x xs ≡ x ∷ xs
  first_put x [] above = refl
  first_put x (y ∷ xs) above =
      rw (not_before (number_of x) (number_of y) (omega (arith, above.0))) refl

  in_order_already : (xs : List X) → IsAscending Precedes xs → in_order precedes xs ≡ xs
  in_order_already [] up = refl
  in_order_already (x ∷ xs) up =
      ap (put_in_order precedes x) (in_order_already xs up.1) ∙ first_put x xs up.0

  -- so a query that sorts by the number leaves them as they are
  pub sorted_already : (q : Query) (out : X → Output)
      → ((a b : X) → output_cmp q (out a) (out b) ≡ nat_cmp (number_of a) (number_of b))
      → (xs ys : List X) → IsPermutation xs ys
      → IsAscending (λ a b. is_gt (output_cmp q (out a) (out b)) ≡ false) ys
      → IsAscending Precedes xs → ys ≡ xs
  sorted_already q out compare xs ys moved sorted up =
      ordered_is (λ a b. output_cmp q (out a) (out b)) (sorted_total q out) precedes
      (λ a b. ap is_lt (compare a b) ∙ less_test (number_of a) (number_of b))
      (λ a b. number_of b == number_of a)
      (λ a b is. numbers_tied (number_of a) (number_of b) (sym (compare a b) ∙ is))
      xs ys moved sorted (λ a. once (number_of a) xs up)
      ∙ in_order_already xs up
