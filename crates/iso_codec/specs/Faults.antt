-- The faults of a text, each as a rule on the whole text (own profile): what stands before the
-- place where it shows, and what doesn't follow.
use Rattle.std.specs.Prelude.{◌≡◌, ℕ, ◌+◌, ◌<◌, ◌≤◌, Bool, true, false, List, ◌∷◌, ◌++◌, length}
use Rattle.std.specs.Prelude.{take, drop, Option, Some, None, is_some, ◌⊎◌}
use Rattle.std.specs.List.{list_all}
use Rattle.std.specs.Char.{is_ascii_digit}
use Rattle.hex.specs.Hex.{is_hex_digit}
use Rattle.iso_codec.specs.declared.bitmaps.Bitmaps.{Bitmaps}
use Rattle.iso_codec.specs.declared.element_format.ElementFormat.{ElementFormat}
use Rattle.iso_codec.specs.declared.decode_fault.DecodeFault.{DecodeFault}
use Rattle.iso_codec.specs.declared.decode_fault.DecodeFault.TheVariants.{Memory, BadType}
use Rattle.iso_codec.specs.declared.decode_fault.DecodeFault.TheVariants.{BadBitmap, UnknownElement}
use Rattle.iso_codec.specs.declared.decode_fault.DecodeFault.TheVariants.{Truncated, BadLength}
use Rattle.iso_codec.specs.declared.decode_fault.DecodeFault.TheVariants.{BadContent, Trailing}
use Rattle.iso_codec.specs.Table.{format_of}
use Rattle.iso_codec.specs.Content.{prefix_size, length_of, has_class}
use Rattle.iso_codec.specs.Message.{IsoMessage, IsKind, IsBitmap, AreBitmaps, bit, named, numbers}
use Rattle.iso_codec.specs.Message.{is_element, body, Reads}

-- Four digits, and perhaps a primary bitmap with bit 1, stand before rest: a bitmap has to come.
abbrev pub AwaitsBitmap : List ℕ → List ℕ → Type 0
AwaitsBitmap text rest =
    ((kind : List ℕ) × IsKind kind × (text ≡ kind ++ rest))
    ⊎ ((kind first : List ℕ) × (primary : ℕ) × IsKind kind × IsBitmap first primary
    × (bit primary 1 ≡ true) × (text ≡ kind ++ (first ++ rest)))

-- The type and the bitmaps stand before rest.
pub record HasHeader (text kind : List ℕ) (bitmaps : Bitmaps) (rest : List ℕ) : Type 0 where
  pub digits : List ℕ
  pub kind_fits : IsKind kind
  pub digits_fit : AreBitmaps digits bitmaps
  pub parts : text ≡ kind ++ (digits ++ rest)

-- whether the table has an element
abbrev pub is_known : ℕ → Bool
is_known n = is_some (format_of n)

-- All that is known of a text before its elements are read, which alone takes memory: its header
-- stands, and every element that it names is in the table.
pub record NeedsMemory (text : List ℕ) : Type 0 where
  pub kind : List ℕ
  pub bitmaps : Bitmaps
  pub rest : List ℕ
  pub header : HasHeader text kind bitmaps rest
  pub known : list_all is_known (named bitmaps) ≡ true

-- Every element that is named is in the table, those before n stand before rest, and n has to come.
pub record AwaitsElement (text : List ℕ) (n : ℕ) (format : ElementFormat) (rest : List ℕ) :
    Type 0 where
  pub kind : List ℕ
  pub bitmaps : Bitmaps
  pub elements : List (ℕ × List ℕ)
  pub later : List ℕ
  pub header : HasHeader text kind bitmaps (body elements ++ rest)
  pub known : list_all is_known (named bitmaps) ≡ true
  pub each : list_all is_element elements ≡ true
  pub numbers_are : named bitmaps ≡ numbers elements ++ n ∷ later
  pub format_is : format_of n ≡ Some format

-- ---- faults of one element, at whose place rest stands

-- the length that the digits at the front of rest state
abbrev pub length_at : ElementFormat → List ℕ → Option ℕ
length_at format rest = length_of format.form (take (prefix_size format.form) rest)

-- rest ends within the digits of the length, or within the content
abbrev pub IsCut : ElementFormat → List ℕ → Type 0
IsCut format rest =
    (length rest < prefix_size format.form)
    ⊎ ((prefix_size format.form ≤ length rest) × (len : ℕ) × (length_at format rest ≡ Some len)
    × (length rest < prefix_size format.form + len))

-- the digits of the length are none, or state more than may be
abbrev pub HasBadLength : ElementFormat → List ℕ → Type 0
HasBadLength format rest =
    (prefix_size format.form ≤ length rest) × (length_at format rest ≡ None)

-- a byte of the content is outside the class
abbrev pub HasBadContent : ElementFormat → List ℕ → Type 0
HasBadContent format rest =
    (len : ℕ) × (prefix_size format.form + len ≤ length rest) × (length_at format rest ≡ Some len)
    × (has_class format.class (take len (drop (prefix_size format.form) rest)) ≡ false)

-- n is the first element that the bitmaps name and the table doesn't have
pub record IsFirstUnknown (bitmaps : Bitmaps) (n : ℕ) : Type 0 where
  pub earlier : List ℕ
  pub later : List ℕ
  pub numbers_are : named bitmaps ≡ earlier ++ n ∷ later
  pub known : list_all is_known earlier ≡ true
  pub unknown : format_of n ≡ None

-- ---- the first rule that applies

abbrev pub FirstFault : List ℕ → DecodeFault → Type 0
FirstFault text Memory = ⊥
FirstFault text BadType = (4 ≤ length text) × (list_all is_ascii_digit (take 4 text) ≡ false)
FirstFault text BadBitmap =
    (rest : List ℕ) × AwaitsBitmap text rest × (16 ≤ length rest)
    × (list_all is_hex_digit (take 16 rest) ≡ false)
FirstFault text (UnknownElement n) =
    (bitmaps : Bitmaps) × (kind rest : List ℕ) × HasHeader text kind bitmaps rest
    × IsFirstUnknown bitmaps n
FirstFault text (Truncated n) =
    ((n ≡ 0)
    × ((length text < 4) ⊎ ((rest : List ℕ) × AwaitsBitmap text rest × (length rest < 16))))
    ⊎ ((format : ElementFormat) × (rest : List ℕ) × AwaitsElement text n format rest
    × IsCut format rest)
FirstFault text (BadLength n) =
    (format : ElementFormat) × (rest : List ℕ) × AwaitsElement text n format rest
    × HasBadLength format rest
FirstFault text (BadContent n) =
    (format : ElementFormat) × (rest : List ℕ) × AwaitsElement text n format rest
    × HasBadContent format rest
FirstFault text Trailing =
    (front rest : List ℕ) × (m : IsoMessage) × Reads front m × (text ≡ front ++ rest)
    × (0 < length rest)

-- ---- what the parts of `decode` say of their faults

-- the fault of element n of this format, at whose place rest stands
abbrev pub ContentFault : ℕ → ElementFormat → List ℕ → DecodeFault → Type 0
ContentFault n format rest (Truncated k) = (k ≡ n) × IsCut format rest
ContentFault n format rest (BadLength k) = (k ≡ n) × HasBadLength format rest
ContentFault n format rest (BadContent k) = (k ≡ n) × HasBadContent format rest
ContentFault n format rest Memory = ⊥
ContentFault n format rest BadType = ⊥
ContentFault n format rest BadBitmap = ⊥
ContentFault n format rest (UnknownElement k) = ⊥
ContentFault n format rest Trailing = ⊥

-- rest is the spelling of this content, and then after
pub record IsContent (format : ElementFormat) (rest content after : List ℕ) : Type 0 where
  pub len : ℕ
  pub parts : rest ≡ take (prefix_size format.form) rest ++ (content ++ after)
  pub stated : length_at format rest ≡ Some len
  pub prefix_there : prefix_size format.form ≤ length rest
  pub size : length content ≡ len
  pub class_fits : has_class format.class content ≡ true

-- no bitmap stands in rest
abbrev pub BitmapFault : List ℕ → DecodeFault → Type 0
BitmapFault rest (Truncated n) = (n ≡ 0) × (length rest < 16)
BitmapFault rest BadBitmap = (16 ≤ length rest) × (list_all is_hex_digit (take 16 rest) ≡ false)
BitmapFault rest Memory = ⊥
BitmapFault rest BadType = ⊥
BitmapFault rest (UnknownElement n) = ⊥
BitmapFault rest (BadLength n) = ⊥
BitmapFault rest (BadContent n) = ⊥
BitmapFault rest Trailing = ⊥

pub record BeginsWithBitmap (rest : List ℕ) (bits : ℕ) (after : List ℕ) : Type 0 where
  pub enough : 16 ≤ length rest
  pub bitmap : IsBitmap (take 16 rest) bits
  pub after_is : after ≡ drop 16 rest

-- memory, or a fault whatever head with these bitmaps stands before the elements
abbrev pub ElementsFault : Bitmaps → List ℕ → DecodeFault → Type 0
ElementsFault bitmaps rest f =
    (f ≡ Memory)
    ⊎ ((text kind : List ℕ) → HasHeader text kind bitmaps rest → FirstFault text f)

-- the elements that the bitmaps name, and nothing else
pub record IsBody (bitmaps : Bitmaps) (rest : List ℕ) (es : List (ℕ × List ℕ)) : Type 0 where
  pub parts : rest ≡ body es
  pub each : list_all is_element es ≡ true
  pub numbers_are : numbers es ≡ named bitmaps
