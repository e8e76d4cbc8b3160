-- What is shown of an element's content (own profile).
use Rattle.std.specs.Prelude.{ℕ, ◌==◌, nat_le, ◌||◌, List, ◌++◌, length, take, drop, map, replicate}
use Rattle.std.specs.Prelude.{[], codes, Option, Some, None, if◌then◌else◌}
use Rattle.std.specs.Fmt.{decimal}
use Rattle.iso_codec.specs.Content.{is_printable}
use Rattle.card_no.specs.CardNumbers.{masked_of}
use Rattle.card_no.specs.Track2.{track2_of}
use Rattle.acq_show.specs.Names.{is_empty}
use Rattle.acq_show.specs.Meanings.{meaning}

abbrev pub stars : ℕ → List ℕ
stars n = replicate n 42

-- A card number's mask; of one that is so short that its mask would show it nearly whole, stars.
abbrev pub number_shown : List ℕ → List ℕ
number_shown number =
    if nat_le 13 (length number) then masked_of number else stars (length number)

-- the card number masked, and a star for each byte behind the separator
abbrev pub parts_shown : ℕ → Option (List ℕ × List ℕ) → List ℕ
parts_shown size None = stars size
parts_shown size (Some p) = number_shown p.0 ++ codes "=" ++ stars (length p.1)

abbrev pub track_shown : List ℕ → List ℕ
track_shown track = parts_shown (length track) (track2_of track)

-- the length alone
abbrev pub length_shown : ℕ → List ℕ
length_shown size = codes "(length " ++ decimal size ++ codes ", not shown)"

-- a dot for each byte that can't be printed
abbrev pub byte_shown : ℕ → ℕ
byte_shown b = if is_printable b then b else 46

abbrev pub printable : List ℕ → List ℕ
printable content = map byte_shown content

-- a part of a content, behind its name
abbrev pub part_shown : List ℕ → List ℕ → List ℕ
part_shown name part = name ++ printable part

-- replacement amounts: the amount and that of the settlement, of twelve bytes, then the fees of
-- both, of nine
abbrev pub amounts_shown : List ℕ → List ℕ
amounts_shown content =
    if length content == 42
    then part_shown (codes "amount ") (take 12 content)
    ++ part_shown (codes ", settlement amount ") (take 12 (drop 12 content))
    ++ part_shown (codes ", fee ") (take 9 (drop 12 (drop 12 content)))
    ++ part_shown (codes ", settlement fee ") (drop 9 (drop 12 (drop 12 content)))
    else printable content

-- the original of a reversal: its type, trace number, date and time, acquirer and forwarder (ISO
-- 8583:1987, original data elements)
abbrev pub original_shown : List ℕ → List ℕ
original_shown content =
    if length content == 42
    then part_shown (codes "type ") (take 4 content)
    ++ part_shown (codes ", trace number ") (take 6 (drop 4 content))
    ++ part_shown (codes ", transmitted ") (take 10 (drop 6 (drop 4 content)))
    ++ part_shown (codes ", acquirer ") (take 11 (drop 10 (drop 6 (drop 4 content))))
    ++ part_shown (codes ", forwarder ") (drop 11 (drop 10 (drop 6 (drop 4 content))))
    else printable content

-- behind a content, what it means
abbrev pub meaning_shown : List ℕ → List ℕ
meaning_shown words = if is_empty words then [] else codes ": " ++ words

-- what is shown of element n with this content: 2 is the card number, 35 track 2, 45 track 1, 52
-- the PIN block, 55 chip data, 90 the original of a reversal, 95 the replacement amounts
abbrev pub content_shown : ℕ → List ℕ → List ℕ
content_shown n content =
    if n == 2 then number_shown content
    else if n == 35 then track_shown content
    else if n == 45 || n == 52 || n == 55 then length_shown (length content)
    else if n == 90 then original_shown content
    else if n == 95 then amounts_shown content
    else printable content ++ meaning_shown (meaning n content)
