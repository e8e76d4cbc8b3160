-- The prefix of a card number is the number of its first digits, as many as an issuer identification
-- number has (ISO/IEC 7812-1), and finds the card's issuer. How long it is, and so how great it may
-- be, stands here alone.
use Rattle.std.specs.Prelude.{ℕ, ◌≤◌, ◌==◌, Bool, ◌&&◌, List, length, Option, Some, None}
use Rattle.std.specs.Prelude.{if◌then◌else◌}
use Rattle.std.specs.List.{list_all}
use Rattle.std.specs.Char.{is_ascii_digit}
use Rattle.std.specs.Str.Parse.{digits_value}

-- how many digits prefixes have, and the greatest number of so many
pub record PrefixProfile : Type 0 where
  pub digits : ℕ
  pub greatest : ℕ

-- those of ISO/IEC 7812-1:2017
abbrev pub eight_digits : PrefixProfile
eight_digits = record { digits = 8; greatest = 99_999_999 }

-- those of earlier editions, which books of version 1 have
abbrev pub six_digits : PrefixProfile
six_digits = record { digits = 6; greatest = 999_999 }

-- the profile in force; what is said under a profile without naming it is said under this one
abbrev pub in_force : PrefixProfile
in_force = eight_digits

-- ---- under a profile

abbrev pub IsPrefixUnder : PrefixProfile → ℕ → Type 0
IsPrefixUnder profile number = number ≤ profile.greatest

-- just as many digits as a prefix has
abbrev pub is_prefix_text_under : PrefixProfile → List ℕ → Bool
is_prefix_text_under profile text =
    (length text == profile.digits) && list_all is_ascii_digit text

-- the prefix that a text spells, if it is just so many digits
abbrev pub prefix_of_text_under : PrefixProfile → List ℕ → Option ℕ
prefix_of_text_under profile text =
    if is_prefix_text_under profile text then Some (digits_value 10 text) else None

-- ---- under the one in force

abbrev pub prefix_digits : ℕ
prefix_digits = in_force.digits

abbrev pub greatest_prefix : ℕ
greatest_prefix = in_force.greatest

abbrev pub IsPrefix : ℕ → Type 0
IsPrefix = IsPrefixUnder in_force

abbrev pub is_prefix_text : List ℕ → Bool
is_prefix_text = is_prefix_text_under in_force

abbrev pub prefix_of_text : List ℕ → Option ℕ
prefix_of_text = prefix_of_text_under in_force
