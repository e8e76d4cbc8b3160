-- Messages as lines of hexadecimal digits (own profile).
use Rattle.std.specs.Prelude.{ℕ, ◌+◌, ◌-◌, ◌==◌, nat_eq, Bool, not, ◌&&◌, if◌then◌else◌}
use Rattle.std.specs.Prelude.{List, [], ◌∷◌, length, take, filter_map}
use Rattle.std.specs.Prelude.{Option, Some, None, is_none, Result, Ok, Err}
use Rattle.std.specs.List.{ends_with, position}
use Rattle.std.specs.Result.{result_ok}
use Rattle.hex.specs.Hex.{decode_of}
use Rattle.acq_link.specs.Frames.{fits_frame}

-- ---- lines

-- the lines of a text that has one byte more in front of its first line
abbrev pub on_first : ℕ → List (List ℕ) → List (List ℕ)
on_first byte [] = (byte ∷ []) ∷ []
on_first byte (line ∷ lines) = (byte ∷ line) ∷ lines

-- the parts of a text that line feeds end, the last one perhaps without
abbrev pub lines_of : List ℕ → List (List ℕ)
lines_of [] = []
lines_of (byte ∷ rest) =
    if byte == 10 then [] ∷ lines_of rest else on_first byte (lines_of rest)

-- a line without the carriage return at its end, if one stands there
abbrev pub without_return : List ℕ → List ℕ
without_return line =
    if ends_with nat_eq line (13 ∷ []) then take (length line - 1) line else line

-- ---- messages

-- a message, if it has 1 to 4,096 bytes
abbrev pub if_fits : Option (List ℕ) → Option (List ℕ)
if_fits None = None
if_fits (Some message) = if fits_frame message then Some message else None

-- the message that hexadecimal digits of either case spell
abbrev pub message_of_digits : List ℕ → Option (List ℕ)
message_of_digits digits = if_fits (result_ok (decode_of digits))

-- the message that a line holds
abbrev pub message_of_line : List ℕ → Option (List ℕ)
message_of_line line = message_of_digits (without_return line)

abbrev pub is_empty_line : List ℕ → Bool
is_empty_line line = length (without_return line) == 0

-- the line holds something else than a message
abbrev pub is_bad_line : List ℕ → Bool
is_bad_line line = not (is_empty_line line) && is_none (message_of_line line)

-- these messages, or the number of the line at a place, counted from 1
abbrev pub messages_unless : List (List ℕ) → Option ℕ → Result (List (List ℕ)) ℕ
messages_unless messages None = Ok messages
messages_unless messages (Some place) = Err (place + 1)

-- the messages of lines, or the number of the first bad line
abbrev pub messages_of_lines : List (List ℕ) → Result (List (List ℕ)) ℕ
messages_of_lines lines =
    messages_unless (filter_map message_of_line lines) (position is_bad_line lines)

-- The messages of a text's lines, or the number of the first bad line.
abbrev pub messages_of_text : List ℕ → Result (List (List ℕ)) ℕ
messages_of_text text = messages_of_lines (lines_of text)
