-- The masked lines of messages that differ in what is hidden alone.
use Rattle.std.proofs.Common.{◌≡◌, ◌⊎◌, inl, inr, ℕ, List, [], ◌∷◌, Ok, Err, true, refl, ap, ◌∙◌}
use Rattle.std.specs.Fmt.{decimal}
use Rattle.json.specs.Json.{member, string}
use Rattle.iso_codec.specs.declared.decode_fault.DecodeFault.{DecodeFault}
use Rattle.iso_codec.specs.FaultPlaces.{fault_place}
use Rattle.iso_codec.specs.FaultTexts.{element_of_fault, number_of_fault, text_of_fault}
use Rattle.iso_codec.specs.Message.{IsoMessage}
use Rattle.iso_codec.specs.Reading.{reading_of}
use Rattle.acq_show.specs.Hidden.{CardNumbers, DifferHidden, EachDiffersHidden, Equal}
use Rattle.acq_show.specs.Hidden.{Lengths, Tracks}
use Rattle.acq_show.proofs.HiddenContents.{contents_alike}
use Rattle.acq_json.specs.declared.card_form.CardForm.{CardForm}
use Rattle.acq_json.specs.declared.card_form.CardForm.TheVariants.{Masked}
use Rattle.acq_json.specs.Written.{characters, content_in, elements_json, fault_json, is_masked}
use Rattle.acq_json.specs.Written.{json_line, line_of, message_json}

masked_length : (n : ℕ) → (n ≡ 45) ⊎ ((n ≡ 52) ⊎ (n ≡ 55)) → is_masked n ≡ true
masked_length n (inl is) = rw is refl
masked_length n (inr (inl is)) = rw is refl
masked_length n (inr (inr is)) = rw is refl

pub masked_alike : (n : ℕ) (a b : List ℕ) → DifferHidden n a b
    → content_in Masked n a ≡ content_in Masked n b
masked_alike n a b (Equal same) = ap (content_in Masked n) same
masked_alike n a b (CardNumbers is h) =
    let masked : is_masked n ≡ true = rw is refl in
    rw masked (contents_alike n a b (CardNumbers is h))
masked_alike n a b (Tracks is size h) =
    let masked : is_masked n ≡ true = rw is refl in
    rw masked (contents_alike n a b (Tracks is size h))
masked_alike n a b (Lengths is size) =
    rw (masked_length n is) (contents_alike n a b (Lengths is size))

elements_alike : (es fs : List (ℕ × List ℕ)) → EachDiffersHidden es fs
    → elements_json Masked es ≡ elements_json Masked fs
elements_alike [] [] h = refl
elements_alike (e ∷ es) (f ∷ fs) h =
    ap (λ (c : List ℕ). member (decimal e.0) (string (characters c)) (elements_json Masked es))
    (masked_alike e.0 e.1 f.1 h.1)
    ∙ ap (λ (n : ℕ). member (decimal n) (string (characters (content_in Masked n f.1)))
    (elements_json Masked es)) h.0
    ∙ ap (member (decimal f.0) (string (characters (content_in Masked f.0 f.1))))
    (elements_alike es fs h.2)
elements_alike [] (f ∷ fs) h = absurd h
elements_alike (e ∷ es) [] h = absurd h

pub messages_alike : (text other : List ℕ) (m n : IsoMessage) → reading_of text ≡ Ok m
    → reading_of other ≡ Ok n → m.kind ≡ n.kind → EachDiffersHidden m.elements n.elements
    → json_line Masked text ≡ json_line Masked other
unfolding json_line
messages_alike text other m n read read' kinds h =
    let whole : message_json Masked m ≡ message_json Masked n =
    ap (λ (kind : List ℕ). message_json Masked (record { kind = kind; elements = m.elements }))
    kinds
    ∙ rw (elements_alike m.elements n.elements h) refl in
    rw (read, read') (ap line_of whole)

pub faults_alike : (form : CardForm) (text other : List ℕ) (f : DecodeFault)
    → reading_of text ≡ Err f → reading_of other ≡ Err f
    → fault_place text f ≡ fault_place other f → json_line form text ≡ json_line form other
unfolding json_line
faults_alike form text other f read read' place =
    rw (read, read')
    (ap (λ (n : ℕ). line_of (fault_json (number_of_fault f) (element_of_fault f) n
    (text_of_fault f))) place)
