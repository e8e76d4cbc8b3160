-- Decimal digits of a fixed length.
use Rattle.std.proofs.Common.{◌≡◌, ℕ, zero, suc, ◌+◌, ◌-◌, ◌/◌, ◌%◌, ◌^◌, ◌<◌, ◌≤◌, true, List}
use Rattle.std.proofs.Common.{◌++◌, length, drop}
use Rattle.std.proofs.Common.{refl, ◌∙◌, arith, length-append, append_assoc}
use Rattle.std.proofs.Math.ListN.{set}
use Rattle.std.proofs.Math.Nat.{pow-suc}
use Rattle.std.proofs.lemmas.Bool.Decides.{nat_tests}
use Rattle.std.proofs.lemmas.List.{drop-set}
use Rattle.std.proofs.lemmas.List.Folds.{list_all-append}
use Rattle.std.proofs.lemmas.Int.Digits.{digits_value_push}
use Rattle.std.specs.Char.{digit_value, is_ascii_digit}
use Rattle.std.specs.List.{list_all}
use Rattle.std.specs.Str.Parse.{digits_value}
use Rattle.day_totals.specs.Digits.{zero_padded}

-- a text to the right of a place, and one digit more to its left
pub zero_padded-step : (place number digit : ℕ) (text whole : List ℕ) → 0 < place →
    place ≤ length text → digit
    ≡ 48 + number % 10 → zero_padded place number ++ drop place text ≡ whole →
    zero_padded (place - 1) (number / 10)
    ++ drop (place - 1) (set text (place - 1) digit) ≡ whole
unfolding zero_padded
zero_padded-step zero number digit text whole some within e h = absurd (omega arith)
zero_padded-step (suc place) number digit text whole some within e h =
    let before : suc place - 1 ≡ place = omega arith in
    let room : place < length text = omega arith in
    let next : place + 1 ≡ suc place = omega arith in
    rw (before, drop-set text place digit room, next, e) (rw append_assoc at h)

pub length-zero_padded : (places number : ℕ) → length (zero_padded places number) ≡ places
unfolding zero_padded
length-zero_padded zero number = refl
length-zero_padded (suc places) number =
    rw (length-append, length-zero_padded places (number / 10)) (omega arith)

digit_value-digit : (d : ℕ) → d < 10 → digit_value (48 + d) ≡ d
digit_value-digit d h = grind (arith, nat_tests)

-- the digits spell the number, where there are enough of them
pub digits_value-zero_padded : (places number : ℕ) → number < 10 ^ places →
    digits_value 10 (zero_padded places number)
    ≡ number
unfolding zero_padded
digits_value-zero_padded zero number h = omega arith
digits_value-zero_padded (suc places) number h =
    let few : number / 10 < 10 ^ places = omega (arith, pow-suc 10 places) in
    let rest = digits_value-zero_padded places (number / 10) few in
    let digit = digit_value-digit (number % 10) (omega arith) in
    digits_value_push 10 (zero_padded places (number / 10)) (48 + number % 10)
    ∙ omega (arith, rest, digit)

-- and are digits
pub all_digits-zero_padded : (places number : ℕ) →
    list_all is_ascii_digit (zero_padded places number) ≡ true
unfolding zero_padded
all_digits-zero_padded zero number = refl
all_digits-zero_padded (suc places) number =
    let last : is_ascii_digit (48 + number % 10) ≡ true = grind (arith, nat_tests) in
    rw (list_all-append, all_digits-zero_padded places (number / 10), last)
