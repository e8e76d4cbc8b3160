-- A test of two keys says that they are the same.
use Rattle.std.proofs.Common.{◌≡◌, ◌==◌, ℕ, Bool, true, false, List, refl, sym, subst, ◌∙◌, arith}
use Rattle.std.proofs.Common.{true≢false}
use Rattle.std.specs.Str.{bytes_eq}
use Rattle.std.proofs.lemmas.Bool.Decides.{nat_tests}
use Rattle.std.proofs.lemmas.Slice.Eq.{bytes_eq-Decides}

pub bytes_same : (a b : List ℕ) → bytes_eq a b ≡ true → a ≡ b
bytes_same a b h = (bytes_eq-Decides a b).0 h

pub bytes_itself : (a : List ℕ) → bytes_eq a a ≡ true
bytes_itself a = (bytes_eq-Decides a a).1 refl

pub number_same : (a b : ℕ) → (a == b) ≡ true → a ≡ b
number_same a b h = grind (arith, nat_tests, h)

pub number_itself : (a : ℕ) → (a == a) ≡ true
number_itself a = grind (arith, nat_tests)

pub bytes_back : (a b : List ℕ) → bytes_eq a b ≡ bytes_eq b a
bytes_back a b = go (bytes_eq a b) (bytes_eq b a) refl refl
  where
    go : (x y : Bool) → bytes_eq a b ≡ x → bytes_eq b a ≡ y → x ≡ y
    go true true h k = refl
    go false false h k = refl
    go true false h k =
        let other = subst (λ c. bytes_eq c a ≡ false) (sym (bytes_same a b h)) k in
        absurd (true≢false (sym (bytes_itself a) ∙ other))
    go false true h k =
        let other = subst (λ c. bytes_eq c b ≡ false) (sym (bytes_same b a k)) h in
        absurd (true≢false (sym (bytes_itself b) ∙ other))

pub number_back : (a b : ℕ) → (a == b) ≡ (b == a)
number_back a b = grind (arith, nat_tests)
