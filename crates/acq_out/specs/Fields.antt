-- The fields of event lines (own profile): which texts spell a number, a name, a verdict, and a
-- message.
use Rattle.std.specs.Prelude.{ℕ, ◌-◌, ◌==◌, nat_le, Bool, not, ◌&&◌, List, ◌++◌, length, replicate}
use Rattle.std.specs.Prelude.{codes, Option, Some, None, if◌then◌else◌}
use Rattle.std.specs.List.{list_all}
use Rattle.std.specs.Char.{is_ascii_digit}
use Rattle.std.specs.Result.{result_ok}
use Rattle.std.specs.Str.{bytes_eq}
use Rattle.std.specs.Str.Parse.{digits_value}
use Rattle.hex.specs.Hex.{decode_of}
use Rattle.acq_message.specs.Moments.{is_moment}
use Rattle.acq_message.specs.Names.{is_merchant, is_terminal, is_currency}
use Rattle.acq_message.specs.IssuerTexts.{is_authorization_id, is_decline_code}
use Rattle.acq_message.specs.declared.verdict.Verdict.{Verdict}
use Rattle.acq_message.specs.declared.verdict.Verdict.TheVariants.{Approved, Declined, NoAnswer}
use Rattle.acq_core.specs.Numbers.{is_first_reference}

-- 1 to 12 digits, leading zeros allowed
abbrev pub is_number_text : List ℕ → Bool
is_number_text text =
    nat_le 1 (length text) && nat_le (length text) 12 && list_all is_ascii_digit text

abbrev pub number_of_text : List ℕ → Option ℕ
number_of_text text = if is_number_text text then Some (digits_value 10 text) else None

-- a number, if it passes
abbrev pub passing : (ℕ → Bool) → Option ℕ → Option ℕ
passing p None = None
passing p (Some n) = if p n then Some n else None

abbrev pub moment_of_text : List ℕ → Option ℕ
moment_of_text text = passing is_moment (number_of_text text)

abbrev pub first_reference_of_text : List ℕ → Option ℕ
first_reference_of_text text = passing is_first_reference (number_of_text text)

abbrev pub is_empty : List ℕ → Bool
is_empty text = length text == 0

-- a text of n bytes at least: a shorter one is filled on the right with spaces
abbrev pub filled : ℕ → List ℕ → List ℕ
filled n text = text ++ replicate (n - length text) 32

-- a merchant's name, filled; nothing is no name
abbrev pub merchant_of_text : List ℕ → Option (List ℕ)
merchant_of_text text =
    if not (is_empty text) && is_merchant (filled 15 text) then Some (filled 15 text) else None

-- a terminal's name, filled; nothing is no name
abbrev pub terminal_of_text : List ℕ → Option (List ℕ)
terminal_of_text text =
    if not (is_empty text) && is_terminal (filled 8 text) then Some (filled 8 text) else None

abbrev pub currency_of_text : List ℕ → Option (List ℕ)
currency_of_text text = if is_currency text then Some text else None

-- the message that hexadecimal digits of either case spell
abbrev pub message_of_hex : List ℕ → Option (List ℕ)
message_of_hex text = result_ok (decode_of text)

-- a verdict's word, and an authorization id, a code, or nothing
abbrev pub verdict_of_texts : List ℕ → List ℕ → Option Verdict
verdict_of_texts word text =
    if bytes_eq word (codes "approved") then
    (if is_authorization_id text then Some (Approved text) else None)
    else if bytes_eq word (codes "declined") then
    (if is_decline_code text then Some (Declined text) else None)
    else if bytes_eq word (codes "none") then
    (if is_empty text then Some NoAnswer else None)
    else None
