-- What a text reads as, and how a message is spelled, as functions that compute. `laws` ties them
-- to the relations of `Message` and `Faults`.
use Rattle.std.specs.Prelude.{◌≡◌, ℕ, ◌-◌, ◌^◌, nat_le, nat_lt, Bool, true, false, List, [], ◌∷◌}
use Rattle.std.specs.Prelude.{◌++◌, length, take, drop, Option, Some, None, Result, Ok, Err}
use Rattle.std.specs.Prelude.{if◌then◌else◌, fold, bit_or}
use Rattle.std.specs.List.{list_all}
use Rattle.std.specs.Char.{is_ascii_digit}
use Rattle.std.specs.Int.{w64, from_be_bytes, to_be_bytes}
use Rattle.hex.specs.Hex.{decode_of, encode_upper}
use Rattle.hex.specs.declared.error.FromHexError.{FromHexError}
use Rattle.iso_codec.specs.declared.bitmaps.Bitmaps.{Bitmaps}
use Rattle.iso_codec.specs.declared.element_format.ElementFormat.{ElementFormat}
use Rattle.iso_codec.specs.declared.decode_fault.DecodeFault.{DecodeFault}
use Rattle.iso_codec.specs.declared.decode_fault.DecodeFault.TheVariants.{BadType, BadBitmap}
use Rattle.iso_codec.specs.declared.decode_fault.DecodeFault.TheVariants.{UnknownElement, Truncated}
use Rattle.iso_codec.specs.declared.decode_fault.DecodeFault.TheVariants.{BadLength, BadContent}
use Rattle.iso_codec.specs.declared.decode_fault.DecodeFault.TheVariants.{Trailing}
use Rattle.iso_codec.specs.Table.{format_of}
use Rattle.iso_codec.specs.Content.{prefix_size, length_of, has_class}
use Rattle.iso_codec.specs.Message.{IsoMessage, bit, named, numbers, body}
use Rattle.iso_codec.specs.Faults.{is_known}

infixl 10 ◌>>=◌
abbrev pub ◌>>=◌ :
    {A B : Type 0} → Result A DecodeFault → (A → Result B DecodeFault) → Result B DecodeFault
(Ok x) >>= f = f x
(Err e) >>= f = Err e

-- the number, or the fault where there is none
abbrev pub or_fault : DecodeFault → Option ℕ → Result ℕ DecodeFault
or_fault fault None = Err fault
or_fault fault (Some n) = Ok n

-- so many bytes, and what stands after them; n has to come
abbrev pub taken : ℕ → ℕ → List ℕ → Result (List ℕ × List ℕ) DecodeFault
taken n count rest =
    if nat_lt (length rest) count then Err (Truncated n)
    else Ok (take count rest, drop count rest)

-- the four digits, and what stands after them
unfoldable pub kind_at : List ℕ → Result (List ℕ × List ℕ) DecodeFault
kind_at text = do
  kind ← taken 0 4 text
  if list_all is_ascii_digit kind.0 then Ok kind else Err BadType

abbrev pub bits_of : Result (List ℕ) FromHexError → Result ℕ DecodeFault
bits_of (Ok bytes) = Ok (from_be_bytes w64 bytes)
bits_of (Err e) = Err BadBitmap

-- a bitmap, and what stands after it
unfoldable pub bitmap_at : List ℕ → Result (ℕ × List ℕ) DecodeFault
bitmap_at rest = do
  digits ← taken 0 16 rest
  bits ← bits_of (decode_of digits.0)
  Ok (bits, digits.1)

-- the second bitmap, where there is one
abbrev pub second_at : Bool → List ℕ → Result (ℕ × List ℕ) DecodeFault
second_at true rest = bitmap_at rest
second_at false rest = Ok (0, rest)

-- the bitmaps, and what stands after them
unfoldable pub bitmaps_at : List ℕ → Result (Bitmaps × List ℕ) DecodeFault
bitmaps_at rest = do
  first ← bitmap_at rest
  second ← second_at (bit first.0 1) first.1
  Ok (record { primary = first.0; secondary = second.0 }, second.1)

-- these numbers, where the table has each
unfoldable pub known_of : List ℕ → Result (List ℕ) DecodeFault
known_of [] = Ok []
known_of (n ∷ ns) =
    if is_known n then known_of ns >>= (λ others. Ok (n ∷ others))
    else Err (UnknownElement n)

-- the content of an element of this format, and what stands after it
unfoldable pub content_by : ℕ → Option ElementFormat → List ℕ → Result (List ℕ × List ℕ) DecodeFault
content_by n None rest = Err (UnknownElement n)
content_by n (Some format) rest = do
  digits ← taken n (prefix_size format.form) rest
  count ← or_fault (BadLength n) (length_of format.form digits.0)
  content ← taken n count digits.1
  if has_class format.class content.0 then Ok content else Err (BadContent n)

-- the elements with these numbers, which are all of the bytes
unfoldable pub elements_at : List ℕ → List ℕ → Result (List (ℕ × List ℕ)) DecodeFault
elements_at [] [] = Ok []
elements_at [] (b ∷ rest) = Err Trailing
elements_at (n ∷ ns) rest = do
  content ← content_by n (format_of n) rest
  others ← elements_at ns content.1
  Ok ((n, content.0) ∷ others)

-- The message that a text spells, or its first fault.
unfoldable pub reading_of : List ℕ → Result IsoMessage DecodeFault
reading_of text = do
  kind ← kind_at text
  bitmaps ← bitmaps_at kind.1
  numbers ← known_of (named bitmaps.0)
  elements ← elements_at numbers bitmaps.1
  Ok (record { kind = kind.0; elements = elements })

-- ---- the spelling

-- the bits with one more, the leftmost of which is number 1
abbrev pub with_bit : ℕ → ℕ → ℕ
with_bit bits n = bit_or bits (2 ^ (64 - n))

-- the bitmaps that name one more element
abbrev pub naming : Bitmaps → ℕ → Bitmaps
naming bitmaps n =
    if nat_le n 64
    then record { primary = with_bit bitmaps.primary n; secondary = bitmaps.secondary }
    else record {
      primary = with_bit bitmaps.primary 1;
      secondary = with_bit bitmaps.secondary (n - 64);
    }

-- the bitmaps that name these elements
unfoldable pub bitmaps_of : List ℕ → Bitmaps
bitmaps_of ns = fold naming (record { primary = 0; secondary = 0 }) ns

abbrev pub upper_case : ℕ → List ℕ
upper_case bits = encode_upper (to_be_bytes w64 bits)

-- the digits of bitmaps, the second only where bit 1 of the first is set
unfoldable pub digits_of_bitmaps : Bitmaps → List ℕ
digits_of_bitmaps bitmaps =
    if bit bitmaps.primary 1 then upper_case bitmaps.primary ++ upper_case bitmaps.secondary
    else upper_case bitmaps.primary

-- The one spelling of a message: bitmaps in capitals, a second one only where an element above 64
-- is there.
unfoldable pub spelling : IsoMessage → List ℕ
spelling m = m.kind ++ (digits_of_bitmaps (bitmaps_of (numbers m.elements)) ++ body m.elements)

-- new is old, and perhaps more after it
abbrev pub Extends : List ℕ → List ℕ → Type 0
Extends old new = (more : List ℕ) × (new ≡ old ++ more)
