-- Rows whose columns are the same, one after the other, are one row.
use Rattle.std.proofs.Common.{◌≡◌, ◌+◌, ◌≤◌, ℕ, zero, suc, List, [], ◌∷◌}
use Rattle.std.proofs.Common.{take, length, slice_get, refl, sym, ap, ap₂, subst, ◌∙◌, arith}
use Rattle.std.proofs.lemmas.List.{take_all}

one_more : {X : Type 0} (at : ℕ) (a b : List X) → take at a ≡ take at b
    → slice_get a at ≡ slice_get b at → take (suc at) a ≡ take (suc at) b
one_more zero [] [] same here = refl
one_more zero [] (y ∷ b) same here = absurd (cc)
one_more zero (x ∷ a) [] same here = absurd (cc)
one_more zero (x ∷ a) (y ∷ b) same here = let e : x ≡ y = cc in ap (λ z. z ∷ []) e
one_more (suc at) [] [] same here = refl
one_more (suc at) [] (y ∷ b) same here = absurd (cc)
one_more (suc at) (x ∷ a) [] same here = absurd (cc)
one_more (suc at) (x ∷ a) (y ∷ b) same here =
    let first : x ≡ y = cc in
    let rest : take at a ≡ take at b = cc in
    ap₂ (λ z l. z ∷ l) first (one_more at a b rest here)

pub take_more : {X : Type 0} (at : ℕ) (a b : List X) → take at a ≡ take at b
    → slice_get a at ≡ slice_get b at → take (at + 1) a ≡ take (at + 1) b
take_more at a b same here =
    let next : suc at ≡ at + 1 = omega arith in
    subst (λ n. take n a ≡ take n b) next (one_more at a b same here)

pub same_whole : {X : Type 0} (n : ℕ) (a b : List X) → length a ≤ n → length b ≤ n
    → take n a ≡ take n b → a ≡ b
same_whole n a b short brief same = sym (take_all n a short) ∙ same ∙ take_all n b brief
