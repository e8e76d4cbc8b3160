-- A list whose elements are changed one after another.
use Rattle.std.proofs.Common.{◌≡◌, ℕ, ◌+◌, ◌<◌, List, [], ◌∷◌, ◌++◌, length, map, take, drop}
use Rattle.std.proofs.Common.{get_or, slice_index_or, slice_set, add-one, append_assoc}
use Rattle.std.proofs.Common.{arith, drop-cons, sym, ap, ◌∙◌}
use Rattle.std.proofs.lemmas.List.{length-map, length-take-le, map-append, set_at}
use Rattle.std.proofs.Math.Seq.{get_or-append_seam, take-suc}

pub set_next : {X : Type 0} (f : X → X) (xs ys : List X) (i : ℕ) (x y : X) → i < length xs →
    ys ≡ map f (take i xs) ++ drop i xs → x ≡ slice_index_or ys i x → y ≡ f x →
    slice_set ys i y ≡ map f (take (i + 1) xs) ++ drop (i + 1) xs
set_next {X} f xs ys i x y within so is changed =
    let here = get_or xs i x in
    let before = map f (take i xs) in
    let after = drop (i + 1) xs in
    let split : drop i xs ≡ here ∷ after =
    drop-cons xs i x within ∙ ap (λ n. here ∷ drop n xs) (sym (add-one i)) in
    let whole : ys ≡ before ++ here ∷ after = so ∙ ap (λ l. before ++ l) split in
    let size : length before ≡ i =
    length-map (take i xs) f ∙ length-take-le i xs (omega (arith, within)) in
    let same : x ≡ here =
    is
    ∙ (ap (λ l. slice_index_or l i x) whole
    ∙ (ap (λ n. get_or (before ++ here ∷ after) n x) (sym size)
    ∙ get_or-append_seam before here after x)) in
    let next : map f (take (i + 1) xs) ≡ before ++ f here ∷ [] =
    ap (map f) (ap (λ n. take n xs) (add-one i) ∙ take-suc xs i x within)
    ∙ map-append f (take i xs) (here ∷ []) in
    ap (λ l. slice_set l i y) whole
    ∙ (set_at before here after y i size
    ∙ (ap (λ v. before ++ v ∷ after) (changed ∙ ap f same)
    ∙ sym (ap (λ l. l ++ after) next ∙ append_assoc before (f here ∷ []) after)))
