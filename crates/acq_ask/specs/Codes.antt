-- Response codes of replies, and how many have each.
use Rattle.std.specs.Prelude.{ℕ, Bool, true, false, List, [], ◌∷◌, ◌++◌, codes, length, Option}
use Rattle.std.specs.Prelude.{Some, Result, Ok, Err, if◌then◌else◌}
use Rattle.std.specs.Fmt.{decimal}
use Rattle.std.specs.List.{count_by, flat_map, fold, list_any}
use Rattle.std.specs.Str.{bytes_eq}
use Rattle.iso_codec.specs.Message.{IsoMessage, content_of}
use Rattle.iso_codec.specs.Reading.{reading_of}
use Rattle.iso_codec.specs.declared.decode_fault.DecodeFault.{DecodeFault}
use Rattle.acq_ask.specs.declared.reply_code.ReplyCode.{ReplyCode}
use Rattle.acq_ask.specs.declared.reply_code.ReplyCode.TheVariants.{Given, Missing}

-- the response code, by the content of element 39
abbrev pub code_in : Option (List ℕ) → ReplyCode
code_in (Some (first ∷ second ∷ [])) = Given (first ∷ second ∷ [])
code_in other = Missing

abbrev pub code_read : Result IsoMessage DecodeFault → ReplyCode
code_read (Ok message) = code_in (content_of message.elements 39)
code_read (Err fault) = Missing

-- the response code of a reply
abbrev pub code_of : List ℕ → ReplyCode
code_of reply = code_read (reading_of reply)

abbrev pub is_same : ReplyCode → ReplyCode → Bool
is_same (Given one) (Given other) = bytes_eq one other
is_same Missing Missing = true
is_same one other = false

-- ---- how many have each

-- with one more, unless it is among them
abbrev pub with_code : List ReplyCode → ReplyCode → List ReplyCode
with_code found code = if list_any (is_same code) found then found else found ++ code ∷ []

-- each code once, in the order in which they first came
abbrev pub distinct : List ReplyCode → List ReplyCode
distinct all = fold with_code [] all

-- how many of them are this code
abbrev pub count_of : List ReplyCode → ReplyCode → ℕ
count_of all code = count_by (is_same code) all

abbrev pub name_of : ReplyCode → List ℕ
name_of (Given code) = codes "code " ++ code
name_of Missing = codes "no code"

abbrev pub count_line : List ReplyCode → ReplyCode → List ℕ
count_line all code = name_of code ++ (codes " " ++ (decimal (count_of all code) ++ codes "\n"))

-- how many replies came to so many messages, and how many have each code
abbrev pub counts_text : ℕ → List ReplyCode → List ℕ
counts_text count all =
    (codes "replies " ++ decimal (length all) ++ codes " of " ++ decimal count ++ codes "\n")
    ++ flat_map (count_line all) (distinct all)
