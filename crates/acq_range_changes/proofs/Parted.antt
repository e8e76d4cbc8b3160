-- Ranges of which the first don't lie behind a range, and the others do.
use Rattle.std.proofs.Common.{◌≡◌, ℕ, zero, suc, true, false, leb, List, [], ◌∷◌}
use Rattle.std.proofs.Common.{length, take, drop, refl, ap, arith}
use Rattle.std.specs.Prelude.{not}
use Rattle.std.specs.List.{AllWithin, filter}
use Rattle.std.proofs.lemmas.Bool.{le-ltb, leb-false, leb-true, lt-ltb}
use Rattle.card_no.specs.declared.range.Range.{Range}
use Rattle.card_no.specs.Ranges.{is_before}

-- none lies behind where none is left
all_near : (r : Range) (xs : List Range) →
    AllWithin (λ s. leb s.low r.high ≡ false) xs 0 (length xs) →
    (take 0 xs ≡ filter (λ s. not (is_before r s)) xs) × (drop 0 xs ≡ filter (is_before r) xs)
all_near r [] behind = (refl, refl)
all_near r (x ∷ xs) behind =
    let rest = all_near r xs (λ k d ge lt. behind (suc k) d (omega arith) (omega arith)) in
    let first = lt-ltb r.high x.low (leb-false _ _ (behind 0 x (omega arith) (omega arith))) in
    (rw first rest.0, rw first (ap (λ l. x ∷ l) rest.1))

pub parted_rows : (r : Range) (xs : List Range) (n : ℕ) →
    AllWithin (λ s. leb s.low r.high ≡ true) xs 0 n →
    AllWithin (λ s. leb s.low r.high ≡ false) xs n (length xs) →
    (take n xs ≡ filter (λ s. not (is_before r s)) xs) × (drop n xs ≡ filter (is_before r) xs)
parted_rows r xs zero near behind = all_near r xs behind
parted_rows r [] (suc n) near behind = (refl, refl)
parted_rows r (x ∷ xs) (suc n) near behind =
    let rest = parted_rows r xs n (λ k d ge lt. near (suc k) d (omega arith) (omega arith))
    (λ k d ge lt. behind (suc k) d (omega arith) (omega arith)) in
    let first = le-ltb r.high x.low (leb-true _ _ (near 0 x (omega arith) (omega arith))) in
    (rw first (ap (λ l. x ∷ l) rest.0), rw first rest.1)
