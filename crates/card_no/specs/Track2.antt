-- What stands round the first field separator of track 2. The separator after the card number is
-- that of ISO/IEC 7813, written `=` or `D`; that what stands before it may be any 0 to 19 digits is
-- this profile's own.
use Rattle.std.specs.Prelude.{◌≡◌, ◌++◌, true, ℕ, ◌==◌, nat_le, Bool, ◌&&◌, ◌||◌, List, [], ◌∷◌}
use Rattle.std.specs.Prelude.{length, Option, Some, None, if◌then◌else◌, option_map}
use Rattle.std.specs.List.{list_all}
use Rattle.std.specs.Char.{is_ascii_digit}
use Rattle.card_no.specs.CardNumbers.{greatest_digits}

-- `=` or `D`
abbrev pub is_separator : ℕ → Bool
is_separator b = (b == 61) || (b == 68)

-- what stands before and after the first separator
abbrev pub parts_of : List ℕ → Option (List ℕ × List ℕ)
parts_of [] = None
parts_of (b ∷ after) =
    if is_separator b then Some ([], after) else option_map (λ p. (b ∷ p.0, p.1)) (parts_of after)

-- no more digits than a card number has
abbrev pub may_be_number : List ℕ → Bool
may_be_number text = nat_le (length text) greatest_digits && list_all is_ascii_digit text

-- the parts, where the first is no more digits than a card number has
abbrev pub if_number : Option (List ℕ × List ℕ) → Option (List ℕ × List ℕ)
if_number None = None
if_number (Some p) = if may_be_number p.0 then Some p else None

-- The card number and what stands after it, or nothing where there is no separator, or something
-- else than 0 to 19 digits before it.
abbrev pub track2_of : List ℕ → Option (List ℕ × List ℕ)
track2_of text = if_number (parts_of text)

-- The same as a relation: 0 to 19 digits, a separator, and what stands after it.
abbrev pub Splits : List ℕ → List ℕ → List ℕ → Type 0
Splits text number after =
    (sign : ℕ) × (is_separator sign ≡ true) × (may_be_number number ≡ true)
    × (text ≡ number ++ sign ∷ after)
