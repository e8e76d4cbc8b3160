-- The answers of a host, as a control connection brings them (own profile): each is a line; and
-- behind a text's heading, `text N`, come the N bytes of the text.
use Rattle.std.specs.Prelude.{◌≡◌, ◌⊎◌, ◌&&◌, ◌<◌, ℕ, Bool, true, false, nat_eq, nat_le, List, []}
use Rattle.std.specs.Prelude.{◌++◌, codes, drop, length, Option, Some, None, if◌then◌else◌}
use Rattle.std.specs.List.{list_all, starts_with}
use Rattle.std.specs.Char.{is_ascii_digit}
use Rattle.std.specs.Str.Parse.{digits_value}
use Rattle.acq_control.specs.Lines.{BeginsWithLine, IsInLine, ended}
use Rattle.acq_control.specs.declared.answer_kind.AnswerKind.{AnswerKind}
use Rattle.acq_control.specs.declared.answer_kind.AnswerKind.TheVariants as kind

-- an answer's line, and the text behind it, which is empty where the line is no text's heading
pub record Answer : Type 0 where
  pub line : List ℕ
  pub text : List ℕ

-- what an answer with this line is
abbrev pub kind_of_line : List ℕ → AnswerKind
kind_of_line line =
    if starts_with nat_eq line (codes "text ") then kind.Text
    else if starts_with nat_eq line (codes "acqd: ") then kind.Fault
    else kind.Line

-- how many bytes a text has: 1 to 16 digits
abbrev pub is_length_text : List ℕ → Bool
is_length_text digits =
    nat_le 1 (length digits) && nat_le (length digits) 16 && list_all is_ascii_digit digits

abbrev pub length_of_text : List ℕ → Option ℕ
length_of_text digits =
    if is_length_text digits then Some (digits_value 10 digits) else None

-- how many bytes stand behind an answer's line, which a text's heading has to say
abbrev pub length_by_kind : AnswerKind → List ℕ → Option ℕ
length_by_kind kind.Text line = length_of_text (drop 5 line)
length_by_kind other line = Some 0

abbrev pub length_behind : List ℕ → Option ℕ
length_behind line = length_by_kind (kind_of_line line) line

-- so it is of an answer
pub record IsAnswer (answer : Answer) : Type 0 where
  pub within : IsInLine answer.line
  pub behind : length_behind answer.line ≡ Some (length answer.text)

-- as it comes
abbrev pub spelled : Answer → List ℕ
spelled answer = ended answer.line ++ answer.text

-- Bytes begin with this answer, and behind it stands a rest.
pub record BeginsWithAnswer (bytes : List ℕ) (answer : Answer) (rest : List ℕ) : Type 0 where
  pub is : IsAnswer answer
  pub whole : bytes ≡ spelled answer ++ rest

-- no answer is whole yet: no line is, or fewer bytes stand behind it than its heading says
abbrev pub IsInAnswer : List ℕ → Type 0
IsInAnswer bytes =
    IsInLine bytes
    ⊎ ((line rest : List ℕ) × (n : ℕ) × BeginsWithLine bytes line rest
    × (length_behind line ≡ Some n) × (length rest < n))

-- a text's heading that says no number stands in front
abbrev pub HasBadHeading : List ℕ → Type 0
HasBadHeading bytes =
    (line rest : List ℕ) × BeginsWithLine bytes line rest × (length_behind line ≡ None)

-- ---- what an answer says

-- of a text its bytes alone, and else the line as it came
abbrev pub said_by_kind : AnswerKind → (line text : List ℕ) → List ℕ
said_by_kind kind.Text line text = text
said_by_kind other line text = line

abbrev pub said : Answer → List ℕ
said answer = said_by_kind (kind_of_line answer.line) (ended answer.line) answer.text

-- what of it is shown as output, and what is told as a fault
abbrev pub shown_of : AnswerKind → List ℕ → List ℕ
shown_of kind.Fault bytes = []
shown_of other bytes = bytes

abbrev pub told_of : AnswerKind → List ℕ → List ℕ
told_of kind.Fault bytes = bytes
told_of other bytes = []

abbrev pub is_fault_kind : AnswerKind → Bool
is_fault_kind kind.Fault = true
is_fault_kind other = false

abbrev pub shown : Answer → List ℕ
shown answer = shown_of (kind_of_line answer.line) (said answer)

abbrev pub told : Answer → List ℕ
told answer = told_of (kind_of_line answer.line) (said answer)

abbrev pub is_fault : Answer → Bool
is_fault answer = is_fault_kind (kind_of_line answer.line)
