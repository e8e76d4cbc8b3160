-- Card numbers: which texts are one, and what is read off them and shown of them.
-- The check digit is that of ISO/IEC 7812-1. A digit is a byte from 0x30 to 0x39.
use Rattle.std.specs.Prelude.{ℕ, ◌+◌, ◌-◌, ◌*◌, ◌%◌, ◌==◌, nat_le, nat_lt, Bool, ◌&&◌, List, []}
use Rattle.std.specs.Prelude.{◌∷◌, ◌++◌, length, take, drop, replicate, codes, if◌then◌else◌}
use Rattle.std.specs.List.{list_all}
use Rattle.std.specs.Char.{is_ascii_digit}
use Rattle.std.specs.Str.Parse.{digits_value}
use Rattle.card_no.specs.Prefix.{PrefixProfile, in_force}

-- ISO/IEC 7812-1, annex B: what a digit counts for at a place. Places are counted from the right,
-- the last digit's is 0. At an even place it counts as itself, at an odd place doubled, less 9
-- where that exceeds 9.
abbrev pub counted_at : ℕ → ℕ → ℕ
counted_at place digit =
    if place % 2 == 0 then digit
    else if nat_lt 9 (2 * digit) then 2 * digit - 9
    else 2 * digit

-- the sum over all places; a digit's place is the number of digits after it
abbrev pub check_sum : List ℕ → ℕ
check_sum [] = 0
check_sum (b ∷ after) = counted_at (length after) (b - 48) + check_sum after

-- how many digits a card number has; the lower bound is this profile's own
abbrev pub least_digits : ℕ
least_digits = 10

abbrev pub greatest_digits : ℕ
greatest_digits = 19

-- so many digits, whose sum is divisible by 10
abbrev pub is_valid_card : List ℕ → Bool
is_valid_card text =
    nat_le least_digits (length text) && nat_le (length text) greatest_digits
    && list_all is_ascii_digit text && (check_sum text % 10 == 0)

-- the number of the first digits, as many as a prefix has
abbrev pub prefix_of_under : PrefixProfile → List ℕ → ℕ
prefix_of_under profile digits = digits_value 10 (take profile.digits digits)

abbrev pub prefix_of : List ℕ → ℕ
prefix_of = prefix_of_under in_force

-- how many digits a mask leaves at the start, which is no prefix's length, and at the end
abbrev pub shown_first : ℕ
shown_first = 6

abbrev pub shown_last : ℕ
shown_last = 4

-- the first digits, a `*` for each digit between, and the last ones (own profile)
abbrev pub masked_of : List ℕ → List ℕ
masked_of digits =
    take shown_first digits ++ replicate (length digits - (shown_first + shown_last)) 42
    ++ drop (length digits - shown_last) digits

-- what `Debug` prints of a card number, and of a masked one
abbrev pub card_debug_text : List ℕ → List ℕ
card_debug_text digits = codes "CardNumber(" ++ masked_of digits ++ codes ")"

abbrev pub mask_debug_text : List ℕ → List ℕ
mask_debug_text mask = codes "MaskedNumber(" ++ mask ++ codes ")"
