-- What messages the lines of a text say (own profile).
use Rattle.std.specs.Prelude.{◌≡◌, ℕ, ◌+◌, List, [], ◌∷◌, ◌++◌, Option, Some, None}
use Rattle.std.specs.Prelude.{Result, Ok, Err, true, is_some, if◌then◌else◌}
use Rattle.std.specs.List.{list_all}
use Rattle.std.specs.Char.{is_ascii_digit}
use Rattle.iso_codec.specs.Message.{IsMessage, IsoMessage, content_of, with_content}
use Rattle.iso_codec.specs.Reading.{spelling}
use Rattle.iso_codec.specs.Setting.{set_fault}
use Rattle.iso_codec.specs.declared.set_fault.SetFault.{SetFault}
use Rattle.iso_codec.specs.declared.set_fault.SetFault.TheVariants.{BadLength}
use Rattle.acq_link.specs.Frames.{fits_frame}
use Rattle.acq_link.specs.HexLines.{lines_of, without_return}
use Rattle.acq_make.specs.declared.draft.Draft.{Draft}
use Rattle.acq_make.specs.declared.line_kind.LineKind.{LineKind}
use Rattle.acq_make.specs.declared.line_kind.LineKind.TheVariants.{Remark, Empty, Head, Element}
use Rattle.acq_make.specs.declared.make_fault.MakeFault.{MakeFault}
use Rattle.acq_make.specs.declared.make_fault.MakeFault.TheVariants.{BadLine, BadMessage}
use Rattle.acq_make.specs.Contents.{content_said}
use Rattle.acq_make.specs.Lines.{line_kind, said_text}

infixl 10 ◌>>=◌
abbrev pub ◌>>=◌ :
    {A B : Type 0} → Result A MakeFault → (A → Result B MakeFault) → Result B MakeFault
(Ok x) >>= f = f x
(Err e) >>= f = Err e

-- ---- a message

-- The message that ends, if one was begun. One that no frame can have is a bad length of element 0
-- at the line of its type.
unfoldable pub ended : Option Draft → Result (List IsoMessage) MakeFault
ended None = Ok []
ended (Some draft) =
    if fits_frame (spelling draft.message) then Ok (draft.message ∷ [])
    else Err (BadMessage draft.line (BadLength 0))

-- a message without elements, if these bytes are a type
unfoldable pub begun : ℕ → List ℕ → Result Draft MakeFault
begun line kind =
    if list_all is_ascii_digit kind
    then Ok (record { line = line; message = record { kind = kind; elements = [] } })
    else Err (BadLine line)

-- with one element more, if it can have this content
abbrev pub with_element : Option SetFault → ℕ → Draft → ℕ → List ℕ → Result Draft MakeFault
with_element (Some fault) line draft n content = Err (BadMessage line fault)
with_element None line draft n content = Ok (record {
  line = draft.line;
  message = record {
    kind = draft.message.kind;
    elements = with_content draft.message.elements n content;
  };
})

-- that is said no second time
abbrev pub with_new_element : ℕ → Draft → ℕ → List ℕ → Result Draft MakeFault
with_new_element line draft n content =
    if is_some (content_of draft.message.elements n) then Err (BadLine line)
    else with_element (set_fault n content) line draft n content

-- where a message was begun, and a content is said
unfoldable pub with_line : ℕ → Option Draft → ℕ → Option (List ℕ) → Result Draft MakeFault
with_line line None n content = Err (BadLine line)
with_line line (Some draft) n None = Err (BadLine line)
with_line line (Some draft) n (Some content) = with_new_element line draft n content

-- ---- lines

-- What a line of this kind does: the message that ends with it, and the one that goes on behind it.
abbrev pub step_by :
    Option LineKind → Option Draft → ℕ → List ℕ → Result (List IsoMessage × Option Draft) MakeFault
step_by None draft number line = Err (BadLine number)
step_by (Some Remark) draft number line = Ok ([], draft)
step_by (Some Empty) draft number line = do
  messages ← ended draft
  Ok (messages, None)
step_by (Some (Head kind)) draft number line = do
  messages ← ended draft
  next ← begun number kind
  Ok (messages, Some next)
step_by (Some (Element n)) draft number line = do
  next ← with_line number draft n (content_said n (said_text n line))
  Ok ([], Some next)

unfoldable pub step : Option Draft → ℕ → List ℕ → Result (List IsoMessage × Option Draft) MakeFault
step draft number line = step_by (line_kind line) draft number line

-- these messages in front of others
unfoldable pub in_front : List IsoMessage → Result (List IsoMessage) MakeFault
    → Result (List IsoMessage) MakeFault
in_front messages (Ok others) = Ok (messages ++ others)
in_front messages (Err fault) = Err fault

-- What lines say, where so many stand before them, and a message was begun there or not: each type
-- begins a message, which has the elements of the lines behind it up to an empty line, the next
-- type, or the end.
unfoldable pub said_behind : Option Draft → ℕ → List (List ℕ) → Result (List IsoMessage) MakeFault
said_behind draft number [] = ended draft
said_behind draft number (line ∷ lines) = do
  now ← step draft (number + 1) (without_return line)
  in_front now.0 (said_behind now.1 (number + 1) lines)

-- The messages that a text says, or its first fault.
unfoldable pub messages_said : List ℕ → Result (List IsoMessage) MakeFault
messages_said text = said_behind None 0 (lines_of text)

-- a message that a frame can have
pub record IsSent (m : IsoMessage) : Type 0 where
  pub is : IsMessage m
  pub fits : fits_frame (spelling m) ≡ true
