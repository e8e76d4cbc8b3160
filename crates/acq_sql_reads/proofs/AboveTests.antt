-- What the terms of a statement make of numbers and texts that are above others.
use Rattle.std.proofs.Common.{◌≡◌, ◌∷◌, ◌++◌, ◌∙◌, ℕ, pos, nat_lt, Bool, true, false, List, []}
use Rattle.std.proofs.Common.{Some, Ordering, Less, Equal, Greater, int_cmp, refl, sym, ap, arith}
use Rattle.std.proofs.Common.{true≢false}
use Rattle.std.specs.Cmp.{nat_cmp_total}
use Rattle.std.specs.Cmp.Lexicographic.{slice_cmp}
use Rattle.std.specs.Ordering.{is_ge, is_gt, is_lt, nat_cmp, ordering_reverse, ordering_then}
use Rattle.std.proofs.lemmas.Bool.Decides.{nat_tests}
use Rattle.sqlite_value.specs.declared.value.Value.TheVariants.{Text}
use Rattle.sqlite_value.specs.declared.keys.Collation.TheVariants.{Binary}
use Rattle.sqlite_value.specs.Order.{value_cmp}
use Rattle.sqlite_value.proofs.OrderLemmas.{value_cmp-Int, value_cmp-Text}
use Rattle.sqlite_sql.specs.declared.ops.BinaryOp.TheVariants.{Compare}
use Rattle.sqlite_sql.specs.declared.ops.CompareOp.TheVariants.{Ge, Gt}
use Rattle.sqlite_sql.specs.Ops.{binary, is_true, from_truth}
use Rattle.row_lemmas.specs.Values.{number}

truth_of : (b : Bool) → is_true (from_truth (Some b)) ≡ b
truth_of true = refl
truth_of false = refl

above : (a b : ℕ) → is_gt (int_cmp (pos a) (pos b)) ≡ nat_lt b a
above a b = grind (arith, nat_tests)

pub number_above : (a b : ℕ) →
    is_true (binary (Compare Gt Binary) (number a) (number b)) ≡ nat_lt b a
unfolding binary
number_above a b =
    truth_of (is_gt (value_cmp (number a) (number b))) ∙ ap is_gt (value_cmp-Int (pos a) (pos b))
    ∙ above a b

-- ---- behind a text are those from the next one on, which has one byte more

ge_nothing : (xs : List ℕ) → is_ge (slice_cmp nat_cmp xs []) ≡ true
ge_nothing [] = refl
ge_nothing (x ∷ xs) = refl

ge_zero : (x : ℕ) (o : Ordering) → is_ge o ≡ true → is_ge (ordering_then (nat_cmp x 0) o) ≡ true
ge_zero x o h = go (nat_cmp x 0) refl
  where
    not_below : is_lt (nat_cmp x 0) ≡ false
    not_below = grind (arith, nat_tests)

    go : (p : Ordering) → nat_cmp x 0 ≡ p → is_ge (ordering_then p o) ≡ true
    go Less is = absurd (true≢false (sym (ap is_lt is) ∙ not_below))
    go Equal is = h
    go Greater is = refl

first_differs : (o p q : Ordering) → is_ge q ≡ is_lt p →
    is_ge (ordering_then (ordering_reverse o) q) ≡ is_lt (ordering_then o p)
first_differs Less p q same = refl
first_differs Equal p q same = same
first_differs Greater p q same = refl

from_next : (b a : List ℕ) →
    is_ge (slice_cmp nat_cmp a (b ++ 0 ∷ [])) ≡ is_lt (slice_cmp nat_cmp b a)
from_next [] [] = refl
from_next [] (x ∷ xs) = ge_zero x (slice_cmp nat_cmp xs []) (ge_nothing xs)
from_next (y ∷ ys) [] = refl
from_next (y ∷ ys) (x ∷ xs) =
    ap (λ o. is_ge (ordering_then o (slice_cmp nat_cmp xs (ys ++ 0 ∷ []))))
    (nat_cmp_total.antisymm x y)
    ∙ first_differs (nat_cmp y x) (slice_cmp nat_cmp ys xs) (slice_cmp nat_cmp xs (ys ++ 0 ∷ []))
    (from_next ys xs)

pub text_behind : (a b : List ℕ) →
    is_true (binary (Compare Ge Binary) (Text a) (Text (b ++ 0 ∷ [])))
    ≡ is_lt (slice_cmp nat_cmp b a)
unfolding binary
text_behind a b =
    truth_of (is_ge (value_cmp (Text a) (Text (b ++ 0 ∷ []))))
    ∙ ap is_ge (value_cmp-Text a (b ++ 0 ∷ []))
    ∙ from_next b a
