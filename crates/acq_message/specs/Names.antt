-- Names of merchants and terminals, currencies, and what tells a terminal's requests apart.
use Rattle.std.specs.Prelude.{ℕ, ◌==◌, Bool, ◌&&◌, List, length}
use Rattle.std.specs.List.{list_all}
use Rattle.std.specs.Char.{is_ascii_digit}
use Rattle.iso_codec.specs.Content.{is_alphanumeric, is_printable}

-- fifteen printable bytes (ISO 8583:1987, card acceptor identification code)
abbrev pub is_merchant : List ℕ → Bool
is_merchant text = length text == 15 && list_all is_printable text

-- eight printable bytes (ISO 8583:1987, card acceptor terminal identification)
abbrev pub is_terminal : List ℕ → Bool
is_terminal text = length text == 8 && list_all is_printable text

-- three letters, digits or spaces (ISO 8583:1987, currency code, transaction)
abbrev pub is_currency : List ℕ → Bool
is_currency text = length text == 3 && list_all is_alphanumeric text

-- six digits (ISO 8583:1987, systems trace audit number)
abbrev pub is_trace : List ℕ → Bool
is_trace text = length text == 6 && list_all is_ascii_digit text

-- ten digits (ISO 8583:1987, transmission date and time; which digits: own profile)
abbrev pub is_transmission : List ℕ → Bool
is_transmission text = length text == 10 && list_all is_ascii_digit text
