-- A card number with one digit changed fails the check: no two digits count for the same at one
-- place.
use Rattle.std.proofs.Common.{◌≡◌, ◌≢◌, ℕ, zero, suc, ◌+◌, ◌-◌, ◌*◌, ◌%◌, ◌<◌, ◌≤◌, true, false}
use Rattle.std.proofs.Common.{eqb, leb}
use Rattle.std.proofs.Common.{List, [], ◌∷◌, length, get_or, set}
use Rattle.std.proofs.Common.{arith, inl, inr}
use Rattle.std.specs.Prelude.{◌&&◌}
use Rattle.std.specs.List.{list_all}
use Rattle.std.specs.Char.{is_ascii_digit}
use Rattle.std.proofs.lemmas.Bool.{and_parts, cases_Bool, cases_lt, lt-ltb, le-ltb}
use Rattle.std.proofs.lemmas.Bool.{eqb-true, false_from_ne_true}
use Rattle.std.proofs.lemmas.List.{length-set, get_or-set_same}
use Rattle.card_no.specs.CardNumbers.{counted_at, check_sum, is_valid_card}
use Rattle.card_no.proofs.DigitPlaces.{digit_at, valid_digits}

-- at one place no two digits count for the same, and none for more than 9
counted-one : (place a b : ℕ) → a ≤ 9 → b ≤ 9 → counted_at place a ≡ counted_at place b → a ≡ b
counted-one place a b la lb h =
    elim (cases_Bool (eqb (place % 2) 0)) [
      | inl even ↦ rw even at h
      | inr odd ↦ elim (cases_lt 9 (2 * a)) [
        | inl over ↦ elim (cases_lt 9 (2 * b)) [
          | inl both ↦ let e : 2 * a - 9 ≡ 2 * b - 9 =
              rw (odd, lt-ltb 9 (2 * a) over, lt-ltb 9 (2 * b) both) at h in
              omega arith
          | inr one ↦ let e : 2 * a - 9 ≡ 2 * b =
              rw (odd, lt-ltb 9 (2 * a) over, le-ltb 9 (2 * b) one) at h in
              omega arith
        ]
        | inr under ↦ elim (cases_lt 9 (2 * b)) [
          | inl one ↦ let e : 2 * a ≡ 2 * b - 9 =
              rw (odd, le-ltb 9 (2 * a) under, lt-ltb 9 (2 * b) one) at h in
              omega arith
          | inr none ↦ let e : 2 * a ≡ 2 * b =
              rw (odd, le-ltb 9 (2 * a) under, le-ltb 9 (2 * b) none) at h in
              omega arith
        ]
      ]
    ]

counted-bound : (place a : ℕ) → a ≤ 9 → counted_at place a ≤ 9
counted-bound place a le =
    elim (cases_Bool (eqb (place % 2) 0)) [
      | inl even ↦ rw even le
      | inr odd ↦ elim (cases_lt 9 (2 * a)) [
        | inl over ↦ rw (odd, lt-ltb 9 (2 * a) over) (omega arith)
        | inr under ↦ rw (odd, le-ltb 9 (2 * a) under) (omega arith)
      ]
    ]

-- the sum after a change, by what the old and the new digit count for
sum-changed : (xs : List ℕ) (i y : ℕ) → i < length xs
    → (place : ℕ) × (check_sum (set xs i y) + counted_at place (get_or xs i 0 - 48)
    ≡ check_sum xs + counted_at place (y - 48))
sum-changed [] i y lt = absurd (omega arith)
sum-changed (x ∷ xs) zero y lt = (length xs, omega arith)
sum-changed (x ∷ xs) (suc i) y lt =
    let (place, e) = sum-changed xs i y (omega arith) in
    (place, rw (length-set xs i y) (omega (arith, e)))

sum_is_ten : (xs : List ℕ) → is_valid_card xs ≡ true → check_sum xs % 10 ≡ 0
sum_is_ten xs h =
    eqb-true (check_sum xs % 10) 0
    (and_parts (leb 10 (length xs) && leb (length xs) 19 && list_all is_ascii_digit xs)
    (eqb (check_sum xs % 10) 0) h).1

pub digit-changed : (xs : List ℕ) (i y : ℕ) → is_valid_card xs ≡ true → i < length xs →
    y ≢ get_or xs i 0
    → is_valid_card (set xs i y) ≡ false
digit-changed xs i y valid lt other = false_from_ne_true _ (λ again. other (same again))
  where
    same : is_valid_card (set xs i y) ≡ true → y ≡ get_or xs i 0
    same again =
        let old = digit_at xs i 0 (valid_digits xs valid).2 lt in
        let within : i < length (set xs i y) = rw (length-set xs i y) lt in
        let new = rw (get_or-set_same xs i y 0 lt) at
        (digit_at (set xs i y) i 0 (valid_digits (set xs i y) again).2
        within) in
        let (place, sums) = sum-changed xs i y lt in
        let a = counted-bound place (get_or xs i 0 - 48) (omega (arith, old.0, old.1)) in
        let b = counted-bound place (y - 48) (omega (arith, new.0, new.1)) in
        let ten = sum_is_ten xs valid in
        let ten-again = sum_is_ten (set xs i y) again in
        let counts : counted_at place (get_or xs i 0 - 48) ≡ counted_at place (y - 48) =
        omega (arith, sums, a, b, ten, ten-again) in
        let values = counted-one place (get_or xs i 0 - 48) (y - 48) (omega (arith, old.0, old.1))
        (omega (arith, new.0, new.1)) counts in
        omega (arith, values, old.0, new.0)
