-- What a person is shown of the lines that `replay` reads and writes (own profile): of a message
-- what is shown of messages, of lines that have none what stands there.
use Rattle.std.specs.Prelude.{ℕ, ◌+◌, ◌==◌, nat_eq, Bool, List, [], ◌∷◌, ◌++◌, length, take}
use Rattle.std.specs.Prelude.{drop, codes, ◌&&◌, ◌||◌}
use Rattle.std.specs.Prelude.{Option, Some, None, if◌then◌else◌}
use Rattle.std.specs.Prelude.{flat_map}
use Rattle.std.specs.List.{list_all, list_any, position, starts_with}
use Rattle.std.specs.Result.{result_ok}
use Rattle.hex.specs.Hex.{decode_of}
use Rattle.iso_codec.specs.Content.{is_printable}
use Rattle.acq_link.specs.HexLines.{lines_of, without_return}
use Rattle.acq_show.specs.Contents.{length_shown, printable}
use Rattle.acq_show.specs.Names.{is_empty}
use Rattle.acq_show.specs.Shown.{shown}

-- where the first comma stands, if one does
abbrev pub comma : List ℕ → Option ℕ
comma text = position (λ byte. byte == 44) text

-- a field up to its comma, or to the end
abbrev pub field_to : Option ℕ → List ℕ → List ℕ
field_to None text = text
field_to (Some end) text = take end text

-- what stands behind that comma
abbrev pub behind : Option ℕ → List ℕ → List ℕ
behind None text = []
behind (Some end) text = drop (end + 1) text

abbrev pub first_field : List ℕ → List ℕ
first_field text = field_to (comma text) text

abbrev pub later_fields : List ℕ → List ℕ
later_fields text = behind (comma text) text

-- a message, and an empty line
abbrev pub message_lines : List ℕ → List ℕ
message_lines message = shown message ++ codes "\n"

-- the message that hexadecimal digits spell
abbrev pub digits_lines : Option (List ℕ) → List ℕ
digits_lines None = codes "not a message: no hexadecimal digits\n\n"
digits_lines (Some message) = message_lines message

-- `reply MESSAGE`, by what stands behind the word
abbrev pub reply_lines : List ℕ → List ℕ
reply_lines message = codes "reply\n" ++ message_lines message

-- `frame,MOMENT,HEX,,,`, by what stands behind the word
abbrev pub frame_lines : List ℕ → List ℕ
frame_lines fields =
    codes "frame," ++ printable (first_field fields) ++ codes "\n"
    ++ digits_lines (result_ok (decode_of (first_field (later_fields fields))))

-- whether a line begins with these bytes
abbrev pub begins : List ℕ → List ℕ → Bool
begins front line = starts_with nat_eq line front

-- How the other lines begin, none of which has a whole card number. A carriage return within may
-- end one, and have a message behind it.
abbrev pub known : List (List ℕ)
known =
    codes "answer," ∷ codes "cutover," ∷ codes "addrange," ∷ codes "droprange," ∷ codes "enrol,"
    ∷ codes "terminal," ∷ codes "ask " ∷ codes "done" ∷ codes "refused " ∷ []

abbrev pub is_known : List ℕ → Bool
is_known line =
    is_empty line
    || (list_all is_printable line && list_any (λ front. begins front line) known)

-- an empty line or one of these as it stands, and of any other one the length alone
abbrev pub other_line : List ℕ → List ℕ
other_line line =
    (if is_known line then printable line else length_shown (length line)) ++ codes "\n"

abbrev pub line_shown : List ℕ → List ℕ
line_shown line =
    if begins (codes "reply ") line then reply_lines (drop 6 line)
    else if begins (codes "frame,") line then frame_lines (drop 6 line)
    else other_line line

-- what is shown of the lines of a text
unfoldable pub lines_shown : List ℕ → List ℕ
lines_shown text = flat_map (λ line. line_shown (without_return line)) (lines_of text)
