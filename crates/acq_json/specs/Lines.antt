-- The messages in the lines that `replay` reads and writes, as JSON (own profile).
use Rattle.std.specs.Prelude.{List, ℕ, [], drop, codes, Option, Some, None, if◌then◌else◌}
use Rattle.std.specs.Prelude.{flat_map}
use Rattle.std.specs.Result.{result_ok}
use Rattle.hex.specs.Hex.{decode_of}
use Rattle.acq_link.specs.HexLines.{lines_of, without_return}
use Rattle.acq_show.specs.Lines.{begins, first_field, later_fields}
use Rattle.acq_json.specs.declared.card_form.CardForm.{CardForm}
use Rattle.acq_json.specs.Written.{fault_json, json_line, line_of}

-- where no message stands in hexadecimal digits, fault 0
unfoldable pub no_digits : List ℕ
no_digits = line_of (fault_json 0 0 0 (codes "no hexadecimal digits"))

-- of the message that such digits spell
abbrev pub digits_json : CardForm → Option (List ℕ) → List ℕ
digits_json form None = no_digits
digits_json form (Some message) = json_line form message

-- `frame,MOMENT,HEX,,,`, by what stands behind the word
abbrev pub frame_json : CardForm → List ℕ → List ℕ
frame_json form fields =
    digits_json form (result_ok (decode_of (first_field (later_fields fields))))

-- the line of the message of `reply MESSAGE` or of a frame; of other lines nothing
abbrev pub line_json : CardForm → List ℕ → List ℕ
line_json form line =
    if begins (codes "reply ") line then json_line form (drop 6 line)
    else if begins (codes "frame,") line then frame_json form (drop 6 line)
    else []

-- what is written of the lines of a text
unfoldable pub json_lines : CardForm → List ℕ → List ℕ
json_lines form text = flat_map (λ line. line_json form (without_return line)) (lines_of text)
