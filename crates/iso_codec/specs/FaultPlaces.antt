-- Where the first fault of a text stands (own profile): how many bytes stand before the piece at
-- fault.
use Rattle.std.specs.Prelude.{ℕ, ◌-◌, ◌==◌, nat_le, nat_lt, List, [], ◌∷◌, length, drop}
use Rattle.std.specs.Prelude.{take_while, Result, Ok, is_ok, if◌then◌else◌}
use Rattle.std.specs.Result.{result_unwrap_or}
use Rattle.iso_codec.specs.declared.decode_fault.DecodeFault.{DecodeFault}
use Rattle.iso_codec.specs.declared.decode_fault.DecodeFault.TheVariants.{Memory, BadType}
use Rattle.iso_codec.specs.declared.decode_fault.DecodeFault.TheVariants.{BadBitmap, UnknownElement}
use Rattle.iso_codec.specs.declared.decode_fault.DecodeFault.TheVariants.{Truncated, BadLength}
use Rattle.iso_codec.specs.declared.decode_fault.DecodeFault.TheVariants.{BadContent, Trailing}
use Rattle.iso_codec.specs.Table.{format_of}
use Rattle.iso_codec.specs.Message.{named}
use Rattle.iso_codec.specs.Reading.{◌>>=◌, bitmap_at, bitmaps_at, content_by}

-- what stands behind the elements with these numbers
unfoldable pub behind : List ℕ → List ℕ → Result (List ℕ) DecodeFault
behind [] rest = Ok rest
behind (n ∷ ns) rest = do
  content ← content_by n (format_of n) rest
  behind ns content.1

-- what stands behind the type, the bitmaps, and the elements below n that they name
unfoldable pub standing_from : ℕ → List ℕ → Result (List ℕ) DecodeFault
standing_from n text = do
  bitmaps ← bitmaps_at (drop 4 text)
  behind (take_while (λ k. nat_lt k n) (named bitmaps.0)) bitmaps.1

-- the bytes before element n
unfoldable pub element_place : ℕ → List ℕ → ℕ
element_place n text = length text - length (result_unwrap_or (standing_from n text) [])

-- The bytes before the piece at fault: the type; the bitmap that is not hexadecimal, or that names
-- the element; the element, with its length; where the text ends in the type or a bitmap, all
-- bytes; the first one behind the elements, of which 128 is the last.
abbrev pub fault_place : List ℕ → DecodeFault → ℕ
fault_place text BadType = 0
fault_place text BadBitmap = if is_ok (bitmap_at (drop 4 text)) then 20 else 4
fault_place text (UnknownElement n) = if nat_le n 64 then 4 else 20
fault_place text (Truncated n) = if n == 0 then length text else element_place n text
fault_place text (BadLength n) = element_place n text
fault_place text (BadContent n) = element_place n text
fault_place text Trailing = element_place 129 text
fault_place text Memory = 0
