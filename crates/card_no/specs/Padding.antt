-- How a card number is kept: its digits, and a `0` for each place behind them.
use Rattle.std.specs.Prelude.{◌≡◌, ℕ, ◌-◌, ◌+◌, ◌≤◌, List, ◌++◌, length, take, replicate}
use Rattle.std.proofs.Common.{arith, sym, ap, ◌∙◌, length-append}
use Rattle.std.proofs.lemmas.List.{length-take, length-replicate}
use Rattle.card_no.specs.CardNumbers.{greatest_digits}

-- a row of `0`
abbrev pub zeros : ℕ → List ℕ
zeros n = replicate n 48

-- as many digits as the greatest number has
abbrev pub padded : List ℕ → List ℕ
padded digits = digits ++ zeros (greatest_digits - length digits)

-- as many digits as were put there
pub length-taken : (digits : List ℕ) (n : ℕ)
    → n ≤ greatest_digits → padded (take n digits) ≡ digits → length (take n digits) ≡ n
length-taken digits n le h =
    let front = length-take n digits in
    let taken = take n digits in
    let room = greatest_digits - length taken in
    let whole : length taken + room ≡ length digits =
    ap (λ (k : ℕ). length taken + k) (sym (length-replicate {A = ℕ} room 48))
    ∙ sym (length-append taken (replicate room 48)) ∙ ap length h in
    omega (arith, front, whole)
