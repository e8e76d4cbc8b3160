-- The line of a message, written whole and read back, says that message.
use Rattle.std.proofs.Common.{◌≡◌, ℕ, ◌<◌, true, false, List, [], ◌∷◌, ◌++◌, Some, Ok, refl, sym}
use Rattle.std.proofs.Common.{ap, ◌∙◌, append-nil, append_assoc}
use Rattle.std.specs.Fmt.{decimal}
use Rattle.std.specs.List.{list_all}
use Rattle.std.proofs.lemmas.Bool.{and_parts, eq-eqb}
use Rattle.json.specs.Json.{string}
use Rattle.json.specs.Print.{print, print_from}
use Rattle.json.specs.Tree.{json_tokens}
use Rattle.iso_codec.proofs.ReadingComputes.{reads_as}
use Rattle.iso_codec.proofs.SpellingComputes.{spelling_writes}
use Rattle.iso_codec.proofs.WrittenIsRead.{is_read}
use Rattle.iso_codec.specs.Message.{Ascends, IsMessage, IsoMessage, is_element, numbers}
use Rattle.iso_codec.specs.Reading.{spelling}
use Rattle.acq_make.specs.Contents.{is_hidden}
use Rattle.acq_make.specs.Said.{IsSent, in_front, ◌>>=◌}
use Rattle.acq_make.proofs.ShownSaid.{fits, goes_last, none_yet, up_to, up_to_last}
use Rattle.acq_make.proofs.Texts.{is_not, line_front, no_return}
use Rattle.acq_json.specs.declared.card_form.CardForm.TheVariants.{Whole}
use Rattle.acq_json.specs.Said.{alone, content_said, is_byte, is_open, line_said, message_said}
use Rattle.acq_json.specs.Said.{messages_said, of_value, said_behind, with_member, with_members}
use Rattle.acq_json.specs.Said.{unless_hidden, with_numbered, with_said}
use Rattle.acq_json.specs.Written.{characters, elements_json, json_line, line_of, message_json}
use Rattle.acq_json.specs.Written.{reading_json}
use Rattle.acq_json.proofs.BytesBack.{bytes_back, digits_are_bytes, element_number, number_back}
use Rattle.acq_json.proofs.WrittenLines.{its_value, one_line_text}
use Rattle.std.specs.Option.{option_and_then}

abbrev Content : Type 0
Content = ℕ × List ℕ

message_of : List ℕ → List Content → IsoMessage
message_of kind es = record { kind = kind; elements = es }

content_back : (n : ℕ) (c : List ℕ) → is_open (n, c) ≡ true
    → content_said n (string (characters c)) ≡ Some c
content_back n c open_is =
    let parts = and_parts (list_all is_byte c) _ open_is in
    let shown : is_hidden n c ≡ false = is_not _ parts.1 in
    ap (option_and_then (unless_hidden n)) (bytes_back c parts.0) ∙ rw shown refl

-- an element that isn't there yet goes behind the others
element_back : (line : ℕ) (kind : List ℕ) (es : List Content) (low n : ℕ) (c : List ℕ)
    → up_to low es ≡ true → low < n → is_element (n, c) ≡ true → is_open (n, c) ≡ true
    → with_member line (message_of kind es) (decimal n) (string (characters c))
    ≡ Ok (message_of kind (es ++ (n, c) ∷ []))
unfolding message_of
element_back line kind es low n c all less is open_is =
    let m : IsoMessage = message_of kind es in
    let j = string (characters c) in
    let bounds = element_number n c is in
    let none = none_yet es low n all less in
    let fit = fits n c is in
    let last = goes_last es low n c all less in
    ap (λ o. with_numbered line m o j) (number_back n bounds.0 bounds.1)
    ∙ ap (with_said line m n) (content_back n c open_is) ∙ rw (none, fit, last) refl

elements_back : (line : ℕ) (kind : List ℕ) (es done : List Content) (low : ℕ)
    → up_to low done ≡ true → Ascends low (numbers es) → list_all is_element es ≡ true
    → list_all is_open es ≡ true
    → with_members line (message_of kind done) (elements_json Whole es)
    ≡ Ok (message_of kind (done ++ es))
elements_back line kind [] done low all a each open_are =
    ap (λ (x : List Content). Ok (message_of kind x)) (sym (append-nil done))
elements_back line kind (e ∷ es) done low all a each open_are =
    let own = and_parts (is_element e) (list_all is_element es) each in
    let clear = and_parts (is_open e) (list_all is_open es) open_are in
    let one = element_back line kind done low e.0 e.1 all a.0 own.0 clear.0 in
    let more = elements_back line kind es (done ++ e ∷ []) e.0
    (up_to_last done low e.0 e.1 all a.0) a.1 own.1 clear.1 in
    let whole = append_assoc done (e ∷ []) es in
    rw one (more ∙ ap (λ (x : List Content). Ok (message_of kind x)) whole)

message_back : (line : ℕ) (m : IsoMessage) → IsSent m → list_all is_open m.elements ≡ true
    → message_said line (print (json_tokens (message_json Whole m))) ≡ Ok m
unfolding message_of
message_back line m sent_is open_are =
    let is : IsMessage m = sent_is.is in
    let kind = bytes_back m.kind (digits_are_bytes m.kind is.kind_fits.digits) in
    let size = eq-eqb _ 4 is.kind_fits.size in
    let digits = is.kind_fits.digits in
    let elements = elements_back line m.kind m.elements [] 1 refl is.ascends is.each open_are in
    let frame = sent_is.fits in
    ap (of_value line) (its_value m is open_are)
    ∙ rw (kind, size, digits, elements, frame) refl

blank_not : (m : IsoMessage) (line : ℕ)
    → line_said line (print (json_tokens (message_json Whole m)))
    ≡ (message_said line (print (json_tokens (message_json Whole m))) >>= alone)
unfolding line_said print_from
blank_not m line = refl

pub line_back : (m : IsoMessage) → IsSent m → list_all is_open m.elements ≡ true
    → messages_said (json_line Whole (spelling m)) ≡ Ok (m ∷ [])
unfolding messages_said json_line said_behind in_front
line_back m sent_is open_are =
    let is : IsMessage m = sent_is.is in
    let text : List ℕ = print (json_tokens (message_json Whole m)) in
    let inner = one_line_text m is open_are in
    let read = reads_as (spelling m) m (is_read (spelling m) m (spelling_writes m is)) in
    let said : line_said 1 text ≡ Ok (m ∷ []) =
    blank_not m 1 ∙ ap (λ r. r >>= alone) (message_back 1 m sent_is open_are) in
    ap (λ r. messages_said (line_of (reading_json Whole (spelling m) r))) read
    ∙ ap (said_behind 0) (line_front text [] inner)
    ∙ rw (no_return text inner, said) refl
