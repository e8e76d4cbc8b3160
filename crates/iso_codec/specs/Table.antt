-- The element table (own profile, after the data elements of ISO 8583:1987).
use Rattle.std.specs.Prelude.{ℕ, ◌==◌, List, [], ◌∷◌, Option, Some, None, if◌then◌else◌}
use Rattle.iso_codec.specs.declared.form.Form.{Form}
use Rattle.iso_codec.specs.declared.form.Form.TheVariants.{Fixed, Llvar, Lllvar}
use Rattle.iso_codec.specs.declared.class.Class.{Class}
use Rattle.iso_codec.specs.declared.class.Class.TheVariants.{Numeric, Alphanumeric, Printable}
use Rattle.iso_codec.specs.declared.class.Class.TheVariants.{Track, Hex, SignedNumeric, Any}
use Rattle.iso_codec.specs.declared.element_format.ElementFormat.{ElementFormat}

abbrev pub row : ℕ → Form → Class → ℕ × ElementFormat
row n form class = (n, record { form = form; class = class })

abbrev pub rows : List (ℕ × ElementFormat)
rows = row 2 (Llvar 19) Numeric
    ∷ row 3 (Fixed 6) Numeric
    ∷ row 4 (Fixed 12) Numeric
    ∷ row 7 (Fixed 10) Numeric
    ∷ row 11 (Fixed 6) Numeric
    ∷ row 12 (Fixed 6) Numeric
    ∷ row 13 (Fixed 4) Numeric
    ∷ row 14 (Fixed 4) Numeric
    ∷ row 15 (Fixed 4) Numeric
    ∷ row 18 (Fixed 4) Numeric
    ∷ row 19 (Fixed 3) Numeric
    ∷ row 22 (Fixed 3) Numeric
    ∷ row 23 (Fixed 3) Numeric
    ∷ row 24 (Fixed 3) Numeric
    ∷ row 25 (Fixed 2) Numeric
    ∷ row 26 (Fixed 2) Numeric
    ∷ row 32 (Llvar 11) Numeric
    ∷ row 33 (Llvar 11) Numeric
    ∷ row 35 (Llvar 37) Track
    ∷ row 37 (Fixed 12) Alphanumeric
    ∷ row 38 (Fixed 6) Alphanumeric
    ∷ row 39 (Fixed 2) Alphanumeric
    ∷ row 41 (Fixed 8) Printable
    ∷ row 42 (Fixed 15) Printable
    ∷ row 43 (Fixed 40) Printable
    ∷ row 45 (Llvar 76) Printable
    ∷ row 48 (Lllvar 999) Any
    ∷ row 49 (Fixed 3) Alphanumeric
    ∷ row 50 (Fixed 3) Alphanumeric
    ∷ row 52 (Fixed 16) Hex
    ∷ row 53 (Fixed 16) Numeric
    ∷ row 54 (Lllvar 120) Printable
    ∷ row 55 (Lllvar 999) Any
    ∷ row 56 (Lllvar 999) Any
    ∷ row 57 (Lllvar 999) Any
    ∷ row 58 (Lllvar 999) Any
    ∷ row 59 (Lllvar 999) Any
    ∷ row 60 (Lllvar 999) Any
    ∷ row 61 (Lllvar 999) Any
    ∷ row 62 (Lllvar 999) Any
    ∷ row 63 (Lllvar 999) Any
    ∷ row 64 (Fixed 16) Hex
    ∷ row 66 (Fixed 1) Numeric
    ∷ row 70 (Fixed 3) Numeric
    ∷ row 74 (Fixed 10) Numeric
    ∷ row 75 (Fixed 10) Numeric
    ∷ row 76 (Fixed 10) Numeric
    ∷ row 77 (Fixed 10) Numeric
    ∷ row 86 (Fixed 16) Numeric
    ∷ row 87 (Fixed 16) Numeric
    ∷ row 88 (Fixed 16) Numeric
    ∷ row 89 (Fixed 16) Numeric
    ∷ row 90 (Fixed 42) Numeric
    ∷ row 95 (Fixed 42) Alphanumeric
    ∷ row 97 (Fixed 17) SignedNumeric
    ∷ row 128 (Fixed 16) Hex
    ∷ []

abbrev pub row_of : List (ℕ × ElementFormat) → ℕ → Option ElementFormat
row_of [] n = None
row_of (r ∷ rs) n = if n == r.0 then Some r.1 else row_of rs n

-- what the table says of element n
unfoldable pub format_of : ℕ → Option ElementFormat
format_of n = row_of rows n
