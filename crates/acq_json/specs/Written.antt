-- Messages as JSON (RFC 8259; the members: own profile).
use Rattle.std.specs.Prelude.{◌≡◌, ℕ, ◌==◌, ◌||◌, Bool, List, [], ◌∷◌, ◌++◌, codes, OnOk}
use Rattle.std.specs.Prelude.{Result, Ok, Err, if◌then◌else◌}
use Rattle.std.specs.Fmt.{decimal}
use Rattle.std.specs.Str.{encode_utf8_all}
use Rattle.json.specs.Json.{Json, number, string, object, Members, no_members, member}
use Rattle.json.specs.Print.{print}
use Rattle.json.specs.Token.{Token}
use Rattle.json.specs.Tree.{json_tokens}
use Rattle.json.specs.Written.{Written}
use Rattle.iso_codec.specs.Message.{IsoMessage}
use Rattle.iso_codec.specs.Reading.{reading_of}
use Rattle.iso_codec.specs.FaultPlaces.{fault_place}
use Rattle.iso_codec.specs.FaultTexts.{number_of_fault, element_of_fault, text_of_fault}
use Rattle.iso_codec.specs.declared.decode_fault.DecodeFault.{DecodeFault}
use Rattle.acq_show.specs.Contents.{content_shown}
use Rattle.acq_json.specs.declared.card_form.CardForm.{CardForm}
use Rattle.acq_json.specs.declared.card_form.CardForm.TheVariants.{Masked, Whole}

-- whether a card can be used by what element n says: 2 is the card number, 35 track 2, 45 track 1,
-- 52 the PIN block, 55 chip data
abbrev pub is_masked : ℕ → Bool
is_masked n = n == 2 || n == 35 || n == 45 || n == 52 || n == 55

-- the content of element n in a form; masked, it stands as it is shown
abbrev pub content_in : CardForm → ℕ → List ℕ → List ℕ
content_in Whole n content = content
content_in Masked n content = if is_masked n then content_shown n content else content

-- a text of one character for each byte: byte b is the character U+00b
abbrev pub characters : List ℕ → List ℕ
characters bytes = encode_utf8_all bytes

-- each element's content, by its number
abbrev pub elements_json : CardForm → List (ℕ × List ℕ) → Members
elements_json form [] = no_members
elements_json form (e ∷ es) =
    member (decimal e.0) (string (characters (content_in form e.0 e.1))) (elements_json form es)

abbrev pub message_json : CardForm → IsoMessage → Json
message_json form m = object
    (member (codes "type") (string (characters m.kind))
    (member (codes "elements") (object (elements_json form m.elements)) no_members))

-- a fault by its number, its element and its place, and in words
abbrev pub fault_json : ℕ → ℕ → ℕ → List ℕ → Json
fault_json fault element place words = object
    (member (codes "fault") (number (decimal fault))
    (member (codes "element") (number (decimal element))
    (member (codes "at") (number (decimal place))
    (member (codes "text") (string words) no_members))))

-- what a text reads as: a message, or a fault and how many bytes stand before its place
abbrev pub reading_json : CardForm → List ℕ → Result IsoMessage DecodeFault → Json
reading_json form text (Ok m) = message_json form m
reading_json form text (Err fault) =
    fault_json (number_of_fault fault) (element_of_fault fault) (fault_place text fault)
    (text_of_fault fault)

-- a value on a line
abbrev pub line_of : Json → List ℕ
line_of j = print (json_tokens j) ++ codes "\n"

-- the line of a text
unfoldable pub json_line : CardForm → List ℕ → List ℕ
json_line form text = line_of (reading_json form text (reading_of text))

-- ---- for private clauses

-- these tokens were put behind those before
pub record Behind (old new : Written) (tokens : List Token) : Type 0 where
  pub before : new.before ≡ old.before
  pub tokens_put : new.tokens ≡ old.tokens ++ tokens

abbrev pub Puts : {E : Type 0} → Result (Unit {0}) E → Written → Written → List Token → Type 0
Puts r old new tokens = OnOk r (Behind old new tokens)
