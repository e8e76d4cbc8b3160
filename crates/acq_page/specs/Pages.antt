-- Pages: pieces in their order, of which a text stands escaped.
use Rattle.std.specs.Prelude.{◌==◌, ◌&&◌, ◌||◌, ℕ, Bool, not, nat_le, List, [], ◌∷◌, codes}
use Rattle.std.specs.Prelude.{flat_map}
use Rattle.std.specs.Prelude.{if◌then◌else◌}
use Rattle.std.specs.Fmt.{decimal}
use Rattle.acq_page.specs.declared.piece.Piece.{Piece}
use Rattle.acq_page.specs.declared.piece.Piece.TheVariants.{Markup, Text, Number}

-- a byte that can be printed
abbrev pub is_printable : ℕ → Bool
is_printable byte = nat_le 32 byte && nat_le byte 126

-- how a byte of a text stands in HTML; a dot stands for one that can't be printed
unfoldable pub escaped_byte : ℕ → List ℕ
escaped_byte byte =
    if byte == 38 then codes "&amp;"
    else if byte == 60 then codes "&lt;"
    else if byte == 62 then codes "&gt;"
    else if byte == 34 then codes "&quot;"
    else if byte == 39 then codes "&#39;"
    else if is_printable byte then byte ∷ []
    else codes "."

abbrev pub escaped : List ℕ → List ℕ
escaped text = flat_map escaped_byte text

-- how a piece stands in a page
abbrev pub spelled : Piece → List ℕ
spelled (Markup words) = words.now
spelled (Text text) = escaped text.now
spelled (Number number) = decimal number

abbrev pub page_of : List Piece → List ℕ
page_of pieces = flat_map spelled pieces

-- a byte that opens or ends no tag, and no value of one
abbrev pub opens_nothing : ℕ → Bool
opens_nothing byte = not (byte == 60 || byte == 62 || byte == 34 || byte == 39)
