-- Digits at their places.
use Rattle.std.proofs.Common.{◌≡◌, ℕ, zero, suc, ◌+◌, ◌-◌, ◌*◌, ◌^◌, ◌<◌, ◌≤◌, true, List, [], ◌∷◌}
use Rattle.std.proofs.Common.{length, take, drop}
use Rattle.std.proofs.Common.{get_or, refl, ◌∙◌, arith, leb}
use Rattle.std.specs.Prelude.{Bool, ◌&&◌, ◌++◌}
use Rattle.std.specs.List.{list_all}
use Rattle.std.specs.Char.{is_ascii_digit}
use Rattle.std.proofs.lemmas.Bool.{and_parts, and_from, leb-true}
use Rattle.std.proofs.lemmas.List.{drop-replicate, take_at}
use Rattle.card_no.specs.Padding.{padded, zeros}
use Rattle.std.proofs.Math.Nat.{pow-le-pow_right}
use Rattle.std.specs.Str.Parse.{digits_value}
use Rattle.std.proofs.lemmas.Str.{digit_value_digit}
use Rattle.std.proofs.lemmas.Int.Digits.{digits_value_more}
use Rattle.card_no.specs.CardNumbers.{is_valid_card}

-- a digit is a byte from 0x30 to 0x39
pub digit_bounds : (b : ℕ) → is_ascii_digit b ≡ true → (48 ≤ b) × (b ≤ 57)
digit_bounds b h = let parts = and_parts _ _ h in (leb-true 48 b parts.0, leb-true b 57 parts.1)

pub digit_at : (xs : List ℕ) (i d : ℕ) → list_all is_ascii_digit xs ≡ true → i < length xs →
    (48 ≤ get_or xs i d)
    × (get_or xs i d ≤ 57)
digit_at [] i d h lt = absurd (omega arith)
digit_at (x ∷ xs) zero d h lt =
    digit_bounds x (and_parts (is_ascii_digit x) (list_all is_ascii_digit xs) h).0
digit_at (x ∷ xs) (suc i) d h lt =
    digit_at xs i d (and_parts (is_ascii_digit x) (list_all is_ascii_digit xs) h).1
    (omega arith)

-- the number that one digit more spells
pub digits_value-take : (xs : List ℕ) (i : ℕ) → list_all is_ascii_digit xs ≡ true → i < length xs
    → digits_value 10 (take (i + 1) xs) ≡ digits_value 10 (take i xs) * 10 + (get_or xs i 0 - 48)
digits_value-take xs i h lt =
    let digit = digit_at xs i 0 h lt in
    let value = digit_value_digit (get_or xs i 0) digit in
    digits_value_more 10 xs i lt ∙ omega (arith, value, digit.0)

-- a number of fewer than nine digits has room for a digit more
pub number_fits : (n i : ℕ) → n < 10 ^ i → i < 9 → n < 100_000_000
number_fits n i h lt =
    let at : i ≤ 8 = omega arith in
    let le : 10 ^ i ≤ 10 ^ 8 = pow-le-pow_right {n = 10} (omega arith) {i = i} {j = 8} at in
    omega arith

-- a part of a list passes as the list does
pub all-take : {X : Type 0} (p : X → Bool) (n : ℕ) (xs : List X) → list_all p xs ≡ true →
    list_all p (take n xs) ≡ true
all-take p zero xs h = refl
all-take p (suc n) [] h = refl
all-take p (suc n) (x ∷ xs) h = let parts = and_parts (p x) (list_all p xs) h in
    and_from (p x) (list_all p (take n xs)) parts.0 (all-take p n xs parts.1)

-- what a valid card number is
pub valid_digits : (xs : List ℕ) → is_valid_card xs ≡ true → (10 ≤ length xs) × (length xs ≤ 19)
    × (list_all is_ascii_digit xs ≡ true)
valid_digits xs h =
    let sum = and_parts (leb 10 (length xs) && leb (length xs) 19 && list_all is_ascii_digit xs) _ h
    in
    let each = and_parts (leb 10 (length xs) && leb (length xs) 19)
    (list_all is_ascii_digit xs) sum.0 in
    let sizes = and_parts (leb 10 (length xs)) (leb (length xs) 19) each.0 in
    (leb-true 10 (length xs) sizes.0, leb-true (length xs) 19 sizes.1, each.1)

-- a valid number, put before a row of `0`, is kept as card numbers are
pub kept-card : (text copy : List ℕ) → length text ≤ 19 → is_valid_card text ≡ true → copy ≡ text
    → (is_valid_card (take (length text) (copy ++ drop (length text) (zeros 19))) ≡ true)
    × (padded (take (length text) (copy ++ drop (length text) (zeros 19))) ≡ copy
    ++ drop (length text) (zeros 19))
kept-card text copy le valid same =
    let rest : drop (length text) (zeros 19) ≡ zeros (19 - length text) =
    drop-replicate (length text) 19 48 in
    let front : take (length text) (text ++ zeros (19 - length text)) ≡ text =
    take_at text (zeros (19 - length text)) (length text) refl in
    rw (same, rest, front) (valid, refl)
