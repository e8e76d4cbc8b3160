-- What is shown of bytes that may hold a card number: how many there are.
use Rattle.std.specs.Prelude.{ℕ, List, ◌++◌, length, codes}
use Rattle.std.specs.Fmt.{decimal}

abbrev pub shown_message_text : List ℕ → List ℕ
shown_message_text bytes = codes "MessageText(" ++ decimal (length bytes) ++ codes " bytes)"

abbrev pub shown_content : List ℕ → List ℕ
shown_content bytes = codes "ElementContent(" ++ decimal (length bytes) ++ codes " bytes)"
