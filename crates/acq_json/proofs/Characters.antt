-- Texts of a character for each byte, one more at a time.
use Rattle.std.proofs.Common.{◌≡◌, ℕ, ◌+◌, ◌<◌, false, ◌&&◌, List, [], ◌∷◌, ◌++◌, length, take, get_or}
use Rattle.std.proofs.Common.{ap, ◌∙◌, append-nil}
use Rattle.std.specs.Char.{encode_utf8}
use Rattle.std.specs.List.{list_all}
use Rattle.std.proofs.lemmas.List.{take_more}
use Rattle.std.proofs.lemmas.List.Folds.{list_all_at, list_all_more}
use Rattle.std.proofs.lemmas.Str.{encodes-append}
use Rattle.acq_json.specs.Said.{is_byte}
use Rattle.acq_json.specs.Written.{characters}

pub one_more_character : (bytes : List ℕ) (i : ℕ) → i < length bytes
    → characters (take (i + 1) bytes) ≡ characters (take i bytes) ++ encode_utf8 (get_or bytes i 0)
one_more_character bytes i within =
    let b = get_or bytes i 0 in
    ap characters (take_more bytes i 0 within) ∙ encodes-append (take i bytes) (b ∷ [])
    ∙ ap (λ (x : List ℕ). characters (take i bytes) ++ x) (append-nil (encode_utf8 b))

pub bytes_more : (text : List ℕ) (i : ℕ) → i < length text
    → list_all is_byte (take (i + 1) text)
    ≡ (list_all is_byte (take i text) && is_byte (get_or text i 0))
bytes_more text i within = list_all_more is_byte text i 0 within

pub no_byte : (text : List ℕ) (i : ℕ) → i < length text → is_byte (get_or text i 0) ≡ false
    → list_all is_byte text ≡ false
no_byte text i within above = list_all_at is_byte text i 0 within above
