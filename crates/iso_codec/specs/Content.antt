-- How an element is spelled: digits of its length where its form has them, and then its bytes
-- (ISO 8583:1987, attributes of data elements; tracks, hexadecimal digits and any bytes: own
-- profile).
use Rattle.std.specs.Prelude.{ℕ, ◌+◌, ◌/◌, ◌%◌, ◌==◌, nat_le, Bool, true, false, ◌&&◌, ◌||◌, List}
use Rattle.std.specs.Prelude.{[], ◌∷◌, ◌++◌, length, Option, Some, None, if◌then◌else◌}
use Rattle.std.specs.List.{list_all}
use Rattle.std.specs.Char.{is_ascii_digit, is_ascii_hexdigit}
use Rattle.std.specs.Int.{is_in_range}
use Rattle.std.specs.Str.Parse.{digits_value}
use Rattle.iso_codec.specs.declared.form.Form.{Form}
use Rattle.iso_codec.specs.declared.form.Form.TheVariants.{Fixed, Llvar, Lllvar}
use Rattle.iso_codec.specs.declared.class.Class.{Class}
use Rattle.iso_codec.specs.declared.class.Class.TheVariants.{Numeric, Alphanumeric, Printable}
use Rattle.iso_codec.specs.declared.class.Class.TheVariants.{Track, Hex, SignedNumeric, Any}
use Rattle.iso_codec.specs.declared.element_format.ElementFormat.{ElementFormat}

-- class an: digits, letters and the space
abbrev pub is_alphanumeric : ℕ → Bool
is_alphanumeric b = is_ascii_digit b || is_in_range 65 90 b || is_in_range 97 122 b || b == 32

-- class ans: from the space to the tilde
abbrev pub is_printable : ℕ → Bool
is_printable b = is_in_range 32 126 b

-- class z: 0x30 to 0x3F, and `D`
abbrev pub is_track : ℕ → Bool
is_track b = is_in_range 48 63 b || b == 68

-- class x+n: first `C` or `D`, and then digits
abbrev pub is_signed : List ℕ → Bool
is_signed [] = false
is_signed (b ∷ bs) = (b == 67 || b == 68) && list_all is_ascii_digit bs

unfoldable pub has_class : Class → List ℕ → Bool
has_class Numeric text = list_all is_ascii_digit text
has_class Alphanumeric text = list_all is_alphanumeric text
has_class Printable text = list_all is_printable text
has_class Track text = list_all is_track text
has_class Hex text = list_all is_ascii_hexdigit text
has_class SignedNumeric text = is_signed text
has_class Any text = true

-- how many digits of length stand before a content of this form
abbrev pub prefix_size : Form → ℕ
prefix_size (Fixed k) = 0
prefix_size (Llvar greatest) = 2
prefix_size (Lllvar greatest) = 3

-- the length that these digits state, if it is no greater than may be
abbrev pub stated : ℕ → List ℕ → Option ℕ
stated greatest digits =
    if list_all is_ascii_digit digits && nat_le (digits_value 10 digits) greatest
    then Some (digits_value 10 digits)
    else None

abbrev pub length_of : Form → List ℕ → Option ℕ
length_of (Fixed k) digits = Some k
length_of (Llvar greatest) digits = stated greatest digits
length_of (Lllvar greatest) digits = stated greatest digits

-- the digits of a length
abbrev pub digits_of : Form → ℕ → List ℕ
digits_of (Fixed k) n = []
digits_of (Llvar greatest) n = (48 + n / 10) ∷ (48 + n % 10) ∷ []
digits_of (Lllvar greatest) n = (48 + n / 100) ∷ (48 + n / 10 % 10) ∷ (48 + n % 10) ∷ []

abbrev pub has_length : Form → ℕ → Bool
has_length (Fixed k) n = n == k
has_length (Llvar greatest) n = nat_le n greatest
has_length (Lllvar greatest) n = nat_le n greatest

-- whether an element may be this text
abbrev pub allows : Option ElementFormat → List ℕ → Bool
allows None text = false
allows (Some format) text = has_length format.form (length text) && has_class format.class text

abbrev pub spelled_by : Option ElementFormat → List ℕ → List ℕ
spelled_by None text = text
spelled_by (Some format) text = digits_of format.form (length text) ++ text
