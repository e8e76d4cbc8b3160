-- What a line of a text that messages are made of says (own profile): the inverse of what a person
-- is shown.
use Rattle.std.specs.Prelude.{ℕ, ◌-◌, ◌==◌, nat_le, Bool, not, ◌&&◌, ◌||◌, List, [], length}
use Rattle.std.specs.Prelude.{drop, codes, Option, Some, None, if◌then◌else◌}
use Rattle.std.specs.List.{list_all, position}
use Rattle.std.specs.Char.{is_ascii_digit}
use Rattle.std.specs.Str.Parse.{digits_value}
use Rattle.acq_show.specs.Lines.{begins, field_to}
use Rattle.acq_show.specs.Names.{element_name, is_empty}
use Rattle.acq_show.specs.Shown.{spaces}
use Rattle.acq_make.specs.declared.line_kind.LineKind.{LineKind}
use Rattle.acq_make.specs.declared.line_kind.LineKind.TheVariants.{Remark, Empty, Head, Element}

-- ---- words

-- a text from a place on, or nothing
abbrev pub from_place : Option ℕ → List ℕ → List ℕ
from_place None text = []
from_place (Some start) text = drop start text

-- where the first space stands
abbrev pub space : List ℕ → Option ℕ
space text = position (λ byte. byte == 32) text

-- where the first byte stands that is none
abbrev pub word_start : List ℕ → Option ℕ
word_start text = position (λ byte. not (byte == 32)) text

abbrev pub behind_spaces : List ℕ → List ℕ
behind_spaces text = from_place (word_start text) text

abbrev pub first_word : List ℕ → List ℕ
first_word text = field_to (space text) text

abbrev pub behind_word : List ℕ → List ℕ
behind_word text = behind_spaces (from_place (space text) text)

-- ---- what a line is

-- a remark of who wrote the text, or why the host replies 30 to a message, as it is shown
abbrev pub is_remark : List ℕ → Bool
is_remark text = begins (codes "#") text || begins (codes "the host replies ") text

-- four bytes may be a type; an element has a number of three digits or fewer, 128 at most (ISO
-- 8583:1987)
abbrev pub word_kind : List ℕ → Option LineKind
word_kind word =
    if length word == 4 then Some (Head word)
    else if nat_le (length word) 3 && list_all is_ascii_digit word
    && nat_le (digits_value 10 word) 128
    then Some (Element (digits_value 10 word))
    else None

abbrev pub text_kind : List ℕ → Option LineKind
text_kind text =
    if is_empty text then Some Empty
    else if is_remark text then Some Remark
    else word_kind (first_word text)

-- what a line is, if it is of a form
unfoldable pub line_kind : List ℕ → Option LineKind
line_kind line = text_kind (behind_spaces line)

-- ---- the text of an element

-- whether the element's name stands there, and the spaces that fill its column
abbrev pub has_name : List ℕ → List ℕ → Bool
has_name name text =
    begins name text && begins (spaces (34 - length name)) (drop (length name) text)

-- what stands behind that
abbrev pub behind_name : ℕ → List ℕ → List ℕ
behind_name n text =
    if has_name (element_name n) text
    then drop (34 - length (element_name n)) (drop (length (element_name n)) text)
    else text

-- The text of element n: what stands behind the number, and behind the name if that is there as it
-- is shown.
unfoldable pub said_text : ℕ → List ℕ → List ℕ
said_text n line = behind_name n (behind_word (behind_spaces line))
