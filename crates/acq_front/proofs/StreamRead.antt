-- What reads gave, one after the other.
use Rattle.std.proofs.Common.{◌≡◌, ◌==◌, ℕ, true, false, List, [], ◌∷◌, ◌++◌, length, take, Option}
use Rattle.std.proofs.Common.{Some, None, refl, sym, ap, ◌∙◌, append_assoc, append-nil, arith}
use Rattle.std.proofs.lemmas.Bool.Decides.{nat_tests}
use Rattle.std.specs.Io.KnownBytes.{Consumes}

pub consumes_none : (known : Option (List ℕ)) → Consumes known known []
consumes_none None = tt
consumes_none (Some xs) = refl

pub consumes_append : (before mid now : Option (List ℕ)) (xs ys : List ℕ) → Consumes before mid xs →
    Consumes mid now ys → Consumes before now (xs ++ ys)
consumes_append None mid now xs ys g h = tt
consumes_append (Some a) None now xs ys g h = absurd g
consumes_append (Some a) (Some b) None xs ys g h = h
consumes_append (Some a) (Some b) (Some d) xs ys g h = g ∙ ap (λ (l : List ℕ). xs ++ l) h
    ∙ sym (append_assoc xs ys d)

-- a piece more
pub received_more : (before mid now input piece : List ℕ) → mid ≡ before ++ input →
    now ≡ mid ++ piece → now ≡ before ++ (input ++ piece)
received_more before mid now input piece e h = h ∙ ap (λ (l : List ℕ). l ++ piece) e
    ∙ append_assoc before input piece

-- no byte more
pub received_none : (before mid now input buffer : List ℕ) (n : ℕ) → n ≡ 0 → mid ≡ before ++ input →
    now ≡ mid ++ take n buffer → now ≡ before ++ input
received_none before mid now input buffer n zero e h = h ∙ ap (λ (i : ℕ). mid ++ take i buffer) zero
    ∙ append-nil mid ∙ e

pub empty_of : (l : List ℕ) → (length l == 0) ≡ true → l ≡ []
empty_of [] e = refl
empty_of (x ∷ l) e = grind (arith, nat_tests)

pub not_empty_of : (l : List ℕ) → (length l == 0) ≡ false → l ≡ [] → ⊥
not_empty_of [] e none = cc
not_empty_of (x ∷ l) e none = cc
