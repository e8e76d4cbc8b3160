-- Elements that rise are in order already, so a query that sorts by the same leaves them as they
-- are.
use Rattle.std.proofs.Common.{◌≡◌, ◌∙◌, ◌≤◌, Bool, true, false, cond, List, [], ◌∷◌, filter, length}
use Rattle.std.proofs.Common.{Ordering, Less, Equal, Greater, refl, ap, arith}
use Rattle.std.specs.Cmp.{IsTotalOrder}
use Rattle.std.specs.List.{AllByRecursion}
use Rattle.std.specs.List.Sorted.{IsPermutation}
use Rattle.std.specs.Ordering.{is_eq, is_gt, is_lt, ordering_reverse}
use Rattle.sqlite_trees.specs.Tree.{IsAscending}
use Rattle.acq_book.specs.Order.{put_in_order, in_order}
use Rattle.acq_sql_reads.proofs.Ordering.{ordered_is}

equal_is : (o : Ordering) → is_eq o ≡ true → o ≡ Equal
equal_is Less h = absurd (cc)
equal_is Equal h = refl
equal_is Greater h = absurd (cc)

module _ {X : Type 0} (cmp : X → X → Ordering) (order : IsTotalOrder cmp) where
  abbrev IsBefore : X → X → Type 0
  IsBefore a b = cmp a b ≡ Less

  abbrev before : X → X → Bool
  before a b = is_lt (cmp a b)

  abbrev same : X → X → Bool
  same a b = is_eq (cmp a b)

  -- none is tied with one that is below all of them
  none_again : (a x : X) (xs : List X) → cmp a x ≡ Equal → AllByRecursion (IsBefore x) xs
      → filter (same a) xs ≡ []
  none_again a x [] tied above = refl
  none_again a x (y ∷ xs) tied above =
      let lower : cmp a y ≡ Less = order.congr a x y tied ∙ above.0 in
      rw lower (none_again a x xs tied above.1)

  once : (a : X) (xs : List X) → IsAscending IsBefore xs → length (filter (same a) xs) ≤ 1
  once a [] up = omega arith
  once a (x ∷ xs) up = go (cmp a x) refl (once a xs up.1)
    where
      those : List X
      those = filter (same a) xs

      go : (o : Ordering) → cmp a x ≡ o → length those ≤ 1
          → length (cond (is_eq o) (x ∷ those) those) ≤ 1
      go Less is rest = rest
      go Greater is rest = rest
      go Equal is rest = rw (none_again a x xs is up.0) (omega arith)

  first_put : (x : X) (xs : List X) → AllByRecursion (IsBefore x) xs
      → put_in_order before x xs ≡ x ∷ xs
  first_put x [] above = refl
  first_put x (y ∷ xs) above =
      let higher : cmp y x ≡ Greater =
      order.antisymm y x ∙ ap ordering_reverse above.0 in
      rw higher refl

  in_order_already : (xs : List X) → IsAscending IsBefore xs → in_order before xs ≡ xs
  in_order_already [] up = refl
  in_order_already (x ∷ xs) up =
      ap (put_in_order before x) (in_order_already xs up.1) ∙ first_put x xs up.0

  -- a list that rises is the only one of its permutations that doesn't fall
  pub rises_already : (xs ys : List X) → IsAscending IsBefore xs → IsPermutation xs ys
      → IsAscending (λ a b. is_gt (cmp a b) ≡ false) ys → ys ≡ xs
  rises_already xs ys up moved sorted =
      ordered_is cmp order before (λ a b. refl) same (λ a b tied. ap is_eq tied) xs ys moved sorted
      (λ a. once a xs up)
      ∙ in_order_already xs up
