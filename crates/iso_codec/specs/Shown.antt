-- What is shown of a message: its type, and each element's number and how many bytes it has. No
-- content is shown, since it may be a card number or a track.
use Rattle.std.specs.Prelude.{ℕ, List, ◌++◌, length, codes}
use Rattle.std.specs.List.{flat_map}
use Rattle.std.specs.Fmt.{decimal}
use Rattle.iso_codec.specs.Message.{IsoMessage}

-- the number of an element and how many bytes it has
abbrev pub shown_size : ℕ → ℕ → List ℕ
shown_size number size =
    codes ", " ++ (decimal number ++ (codes ": " ++ (decimal size ++ codes " bytes")))

abbrev pub shown_element : ℕ × List ℕ → List ℕ
shown_element e = shown_size e.0 (length e.1)

abbrev pub shown_message : IsoMessage → List ℕ
shown_message m =
    codes "Message(" ++ (m.kind ++ (flat_map shown_element m.elements ++ codes ")"))
