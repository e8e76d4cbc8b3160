-- What a message is, and its spelling (ISO 8583:1987: message type identifier, bit maps, data
-- elements).
use Rattle.std.specs.Prelude.{◌≡◌, ℕ, ◌-◌, ◌<◌, ◌==◌, nat_le, nat_lt, ◌||◌, Bool, true, List, []}
use Rattle.std.specs.Prelude.{◌∷◌, ◌++◌, length, map, filter, Option, Some, None, Ok, if◌then◌else◌}
use Rattle.std.specs.Prelude.{MatchBool}
use Rattle.std.specs.List.{list_all, list_any, flat_map, range_with_len}
use Rattle.std.specs.Char.{is_ascii_digit}
use Rattle.std.specs.Int.{is_in_range, bit_at, w64, from_be_bytes}
use Rattle.hex.specs.Hex.{decode_of}
use Rattle.iso_codec.specs.declared.bitmaps.Bitmaps.{Bitmaps}
use Rattle.iso_codec.specs.Table.{format_of}
use Rattle.iso_codec.specs.Content.{allows, spelled_by}

-- A message: its type, and the content of each element, in order of the elements' numbers.
pub record IsoMessage : Type 0 where
  pub kind : List ℕ
  pub elements : List (ℕ × List ℕ)

abbrev pub numbers : List (ℕ × List ℕ) → List ℕ
numbers es = map (λ e. e.0) es

-- four digits: a message type identifier
pub record IsKind (kind : List ℕ) : Type 0 where
  pub size : length kind ≡ 4
  pub digits : list_all is_ascii_digit kind ≡ true

-- each number is greater than the one before it, and the first than low
abbrev pub Ascends : ℕ → List ℕ → Type 0
Ascends low [] = Unit {0}
Ascends low (n ∷ ns) = (low < n) × Ascends n ns

-- whether an element is in the table and has its length and class
abbrev pub is_element : ℕ × List ℕ → Bool
is_element e = allows (format_of e.0) e.1

-- A message's type is four digits, and its elements are the table's, in ascending order.
pub record IsMessage (m : IsoMessage) : Type 0 where
  pub kind_fits : IsKind m.kind
  pub each : list_all is_element m.elements ≡ true
  pub ascends : Ascends 1 (numbers m.elements)

-- the content of element n, if it is there
abbrev pub content_of : List (ℕ × List ℕ) → ℕ → Option (List ℕ)
content_of [] n = None
content_of (e ∷ es) n = if n == e.0 then Some e.1 else content_of es n

-- the elements with this content at n, whatever was there
abbrev pub with_content : List (ℕ × List ℕ) → ℕ → List ℕ → List (ℕ × List ℕ)
with_content [] n text = (n, text) ∷ []
with_content (e ∷ es) n text =
    if nat_le e.0 n then (if n == e.0 then (n, text) ∷ es else e ∷ with_content es n text)
    else (n, text) ∷ e ∷ es

-- whether an element's number is among these
abbrev pub is_among : List ℕ → ℕ × List ℕ → Bool
is_among numbers element = list_any (λ n. n == element.0) numbers

-- ---- bitmaps

-- Sixteen hexadecimal digits, of either case, spell a bitmap.
pub record IsBitmap (digits : List ℕ) (bits : ℕ) : Type 0 where
  pub bytes : List ℕ
  pub size : length digits ≡ 16
  pub decoded : decode_of digits ≡ Ok bytes
  pub value : bits ≡ from_be_bytes w64 bytes

-- bit n of a bitmap, the leftmost of which is number 1
abbrev pub bit : ℕ → ℕ → Bool
bit bits n = bit_at bits (64 - n) == 1

-- whether the bitmaps name element n
abbrev pub names : Bitmaps → ℕ → Bool
names bitmaps n = if nat_le n 64 then bit bitmaps.primary n else bit bitmaps.secondary (n - 64)

-- the elements that the bitmaps name; bit 1 names none
unfoldable pub named : Bitmaps → List ℕ
named bitmaps = filter (names bitmaps) (range_with_len 2 127)

-- The digits are a primary bitmap, and a secondary one exactly where bit 1 of the primary is set.
pub record AreBitmaps (digits : List ℕ) (bitmaps : Bitmaps) : Type 0 where
  pub first : List ℕ
  pub second : List ℕ
  pub parts : digits ≡ first ++ second
  pub primary : IsBitmap first bitmaps.primary
  pub secondary :
      MatchBool (bit bitmaps.primary 1) (IsBitmap second bitmaps.secondary)
      ((second ≡ []) × (bitmaps.secondary ≡ 0))

-- ---- the whole

-- an element's spelling: its length where its form has one, and its content
abbrev pub spelled : ℕ × List ℕ → List ℕ
spelled e = spelled_by (format_of e.0) e.1

-- the spellings of elements, one after the other
abbrev pub body : List (ℕ × List ℕ) → List ℕ
body es = flat_map spelled es

-- The text spells the message: its type, its bitmaps, and the elements that they name, in
-- ascending order.
pub record Reads (text : List ℕ) (m : IsoMessage) : Type 0 where
  pub digits : List ℕ
  pub bitmaps : Bitmaps
  pub is_message : IsMessage m
  pub parts : text ≡ m.kind ++ (digits ++ body m.elements)
  pub digits_fit : AreBitmaps digits bitmaps
  pub names_all : numbers m.elements ≡ named bitmaps

-- digits and capital letters up to `F`
abbrev pub is_upper_hex : ℕ → Bool
is_upper_hex b = is_ascii_digit b || is_in_range 65 70 b

-- The text spells the message with bitmaps in capitals, and a secondary one only where an element
-- above 64 is there.
pub record Writes (text : List ℕ) (m : IsoMessage) : Type 0 where
  pub digits : List ℕ
  pub bitmaps : Bitmaps
  pub is_message : IsMessage m
  pub parts : text ≡ m.kind ++ (digits ++ body m.elements)
  pub digits_fit : AreBitmaps digits bitmaps
  pub names_all : numbers m.elements ≡ named bitmaps
  pub upper_case : list_all is_upper_hex digits ≡ true
  pub second_only : bit bitmaps.primary 1 ≡ list_any (λ n. nat_lt 64 n) (numbers m.elements)
