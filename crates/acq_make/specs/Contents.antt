-- The content that the text of an element says (own profile).
use Rattle.std.specs.Prelude.{ℕ, ◌==◌, nat_eq, nat_le, Bool, ◌&&◌, ◌||◌, List, [], ◌∷◌, length, take}
use Rattle.std.specs.Prelude.{drop, codes, Option, Some, None, if◌then◌else◌}
use Rattle.std.specs.List.{flat_map}
use Rattle.std.specs.Cmp.Lexicographic.{pointwise}
use Rattle.acq_show.specs.Contents.{content_shown}
use Rattle.acq_show.specs.Lines.{begins}

-- a length stands in place of track 1 or of chip data
abbrev pub is_hidden : ℕ → List ℕ → Bool
is_hidden n text = (n == 45 || n == 55) && begins (codes "(length ") text

-- ---- codes behind which it is shown what they mean

-- the size of the processing code, the response code, the settlement code, the network management
-- information code (ISO 8583:1987)
abbrev pub code_size : ℕ → Option ℕ
code_size n =
    if n == 3 then Some 6 else if n == 39 then Some 2 else if n == 66 then Some 1
    else if n == 70 then Some 3 else None

abbrev pub without_words : Option ℕ → List ℕ → List ℕ
without_words None text = text
without_words (Some size) text =
    if nat_le size (length text) && begins (codes ": ") (drop size text) then take size text
    else text

-- the code without its meaning
abbrev pub without_meaning : ℕ → List ℕ → List ℕ
without_meaning n text = without_words (code_size n) text

-- ---- contents of which the parts are shown

-- the parts of a text, each so many bytes behind the text's beginning and of so many bytes
abbrev pub parts_at : List (ℕ × ℕ) → List ℕ → List ℕ
parts_at places text = flat_map (λ p. take p.1 (drop p.0 text)) places

abbrev pub if_shown : Bool → List ℕ → List ℕ → List ℕ
if_shown is parts text = if is then parts else text

-- these parts, if the text is what is shown of them; and else the text
unfoldable pub unshown : ℕ → List (ℕ × ℕ) → List ℕ → List ℕ
unshown n places text =
    if_shown (pointwise nat_eq (content_shown n (parts_at places text)) text) (parts_at places text)
    text

-- type, trace number, date and time, acquirer and forwarder of an original
abbrev pub original_places : List (ℕ × ℕ)
original_places = (5, 4) ∷ (24, 6) ∷ (44, 10) ∷ (65, 11) ∷ (88, 11) ∷ []

-- amount, settlement amount, fee and settlement fee
abbrev pub amount_places : List (ℕ × ℕ)
amount_places = (7, 12) ∷ (39, 12) ∷ (57, 9) ∷ (83, 9) ∷ []

abbrev pub shown_said : ℕ → List ℕ → List ℕ
shown_said n text =
    if n == 90 then unshown n original_places text
    else if n == 95 then unshown n amount_places text
    else without_meaning n text

-- The content of element n that its text says, if it says one.
unfoldable pub content_said : ℕ → List ℕ → Option (List ℕ)
content_said n text = if is_hidden n text then None else Some (shown_said n text)
