-- What messages lines of JSON say (RFC 8259; the members: own profile).
use Rattle.std.specs.Prelude.{ℕ, ◌+◌, ◌==◌, nat_le, not, ◌&&◌, Bool, List, [], ◌∷◌, length, codes}
use Rattle.std.specs.Prelude.{Option, Some, None, Result, Ok, Err, is_some, if◌then◌else◌}
use Rattle.std.specs.Option.{option_and_then, option_map}
use Rattle.std.specs.List.{list_all}
use Rattle.std.specs.Char.{is_ascii_digit}
use Rattle.std.specs.Str.{chars, is_utf8}
use Rattle.std.specs.Str.Parse.{digits_value}
use Rattle.json.specs.Find.{as_object, as_str, get}
use Rattle.json.specs.Json.{Json, Members, document, member, no_members}
use Rattle.json.specs.Strict.{keys}
use Rattle.iso_codec.specs.Message.{IsoMessage, content_of, with_content}
use Rattle.iso_codec.specs.Reading.{spelling}
use Rattle.iso_codec.specs.Setting.{set_fault}
use Rattle.iso_codec.specs.declared.set_fault.SetFault.{SetFault}
use Rattle.iso_codec.specs.declared.set_fault.SetFault.TheVariants.{BadLength}
use Rattle.acq_link.specs.Frames.{fits_frame}
use Rattle.acq_link.specs.HexLines.{lines_of, without_return}
use Rattle.acq_show.specs.Lines.{begins}
use Rattle.acq_make.specs.declared.make_fault.MakeFault.{MakeFault}
use Rattle.acq_make.specs.declared.make_fault.MakeFault.TheVariants.{BadLine, BadMessage}
use Rattle.acq_make.specs.Contents.{is_hidden}
use Rattle.acq_make.specs.Said.{◌>>=◌, in_front}

-- ---- elements

abbrev pub is_byte : ℕ → Bool
is_byte c = nat_le c 255

-- characters as bytes, if each is one of U+0000 to U+00FF
abbrev pub as_bytes : List ℕ → Option (List ℕ)
as_bytes characters = if list_all is_byte characters then Some characters else None

abbrev pub bytes_said : List ℕ → Option (List ℕ)
bytes_said text = as_bytes (chars text)

-- but not what is shown in place of a content
abbrev pub unless_hidden : ℕ → List ℕ → Option (List ℕ)
unless_hidden n content = if is_hidden n content then None else Some content

-- whether an element's content is of bytes, and not as what is shown in place of one
abbrev pub is_open : ℕ × List ℕ → Bool
is_open e = list_all is_byte e.1 && not (is_hidden e.0 e.1)

-- the content of element n that a value says
abbrev pub content_said : ℕ → Json → Option (List ℕ)
content_said n j = option_and_then (unless_hidden n) (option_and_then bytes_said (as_str j))

-- whether a name is a number from 2 to 128 in its plain decimal form
abbrev pub is_number : List ℕ → Bool
is_number name =
    nat_le (length name) 3 && list_all is_ascii_digit name && not (begins (codes "0") name)
    && nat_le 2 (digits_value 10 name) && nat_le (digits_value 10 name) 128

abbrev pub number_said : List ℕ → Option ℕ
number_said name = if is_number name then Some (digits_value 10 name) else None

-- a message with one element more, if it can have this content
abbrev pub with_content_set :
    Option SetFault → ℕ → IsoMessage → ℕ → List ℕ → Result IsoMessage MakeFault
with_content_set (Some fault) line m n content = Err (BadMessage line fault)
with_content_set None line m n content =
    Ok (record { kind = m.kind; elements = with_content m.elements n content })

-- that is said no second time
abbrev pub with_element : ℕ → IsoMessage → ℕ → List ℕ → Result IsoMessage MakeFault
with_element line m n content =
    if is_some (content_of m.elements n) then Err (BadLine line)
    else with_content_set (set_fault n content) line m n content

abbrev pub with_said : ℕ → IsoMessage → ℕ → Option (List ℕ) → Result IsoMessage MakeFault
with_said line m n None = Err (BadLine line)
with_said line m n (Some content) = with_element line m n content

abbrev pub with_numbered : ℕ → IsoMessage → Option ℕ → Json → Result IsoMessage MakeFault
with_numbered line m None j = Err (BadLine line)
with_numbered line m (Some n) j = with_said line m n (content_said n j)

-- the element that a member says
abbrev pub with_member : ℕ → IsoMessage → List ℕ → Json → Result IsoMessage MakeFault
with_member line m name j = with_numbered line m (number_said name) j

-- the elements that members say, in turn
abbrev pub with_members : ℕ → IsoMessage → Members → Result IsoMessage MakeFault
with_members line m no_members = Ok m
with_members line m (member name j ms) = do
  next ← with_member line m name j
  with_members line next ms

-- ---- a message

-- a message without elements, of a type of four digits
abbrev pub begun : ℕ → Option (List ℕ) → Result IsoMessage MakeFault
begun line None = Err (BadLine line)
begun line (Some kind) =
    if length kind == 4 && list_all is_ascii_digit kind
    then Ok (record { kind = kind; elements = [] })
    else Err (BadLine line)

-- a message that a frame can have
abbrev pub sent : ℕ → IsoMessage → Result IsoMessage MakeFault
sent line m = if fits_frame (spelling m) then Ok m else Err (BadMessage line (BadLength 0))

-- the type and the elements of an object that has two members
abbrev pub parts_among : Json → Members → Option (List ℕ × Members)
parts_among j ms =
    if length (keys ms) == 2
    then option_and_then
    (λ kind. option_map (λ elements. (kind, elements))
    (option_and_then as_object (get (codes "elements") j)))
    (option_and_then as_str (get (codes "type") j))
    else None

-- of an object of a text `type`, of an object `elements`, and of no other member
abbrev pub parts_said : Json → Option (List ℕ × Members)
parts_said j = option_and_then (parts_among j) (as_object j)

abbrev pub of_parts : ℕ → Option (List ℕ × Members) → Result IsoMessage MakeFault
of_parts line None = Err (BadLine line)
of_parts line (Some parts) = do
  first ← begun line (bytes_said parts.0)
  whole ← with_members line first parts.1
  sent line whole

-- the JSON value that bytes are, in UTF-8
unfoldable pub value_said : List ℕ → Option Json
value_said text = if is_utf8 text then document text else None

abbrev pub of_value : ℕ → Option Json → Result IsoMessage MakeFault
of_value line j = of_parts line (option_and_then parts_said j)

-- the message that a text on a line says
abbrev pub message_said : ℕ → List ℕ → Result IsoMessage MakeFault
message_said line text = of_value line (value_said text)

-- ---- lines

abbrev pub is_blank : List ℕ → Bool
is_blank line = list_all (λ b. b == 32) line

-- one message in a list
abbrev pub alone : IsoMessage → Result (List IsoMessage) MakeFault
alone m = Ok (m ∷ [])

-- a blank line says none
unfoldable pub line_said : ℕ → List ℕ → Result (List IsoMessage) MakeFault
line_said number line = if is_blank line then Ok [] else message_said number line >>= alone

-- what lines say, where so many stand before them
unfoldable pub said_behind : ℕ → List (List ℕ) → Result (List IsoMessage) MakeFault
said_behind number [] = Ok []
said_behind number (line ∷ lines) = do
  now ← line_said (number + 1) (without_return line)
  in_front now (said_behind (number + 1) lines)

-- The messages that a text says, one a line, or its first fault.
unfoldable pub messages_said : List ℕ → Result (List IsoMessage) MakeFault
messages_said text = said_behind 0 (lines_of text)
