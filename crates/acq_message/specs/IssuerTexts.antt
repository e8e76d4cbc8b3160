-- The texts of an issuer's answer.
use Rattle.std.specs.Prelude.{ℕ, ◌==◌, Bool, not, ◌&&◌, List, length, codes}
use Rattle.std.specs.List.{list_all}
use Rattle.std.specs.Str.{bytes_eq}
use Rattle.iso_codec.specs.Content.{is_alphanumeric}

-- six letters, digits or spaces (ISO 8583:1987, authorization identification response)
abbrev pub is_authorization_id : List ℕ → Bool
is_authorization_id text = length text == 6 && list_all is_alphanumeric text

-- two letters, digits or spaces, but not the code of an approval (ISO 8583:1987, response code)
abbrev pub is_decline_code : List ℕ → Bool
is_decline_code text =
    length text == 2 && list_all is_alphanumeric text && not (bytes_eq text (codes "00"))
