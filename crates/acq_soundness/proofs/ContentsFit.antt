-- What a message's elements hold: names, keys and amounts.
use Rattle.std.proofs.Common.{◌≡◌, ℕ, ◌<◌, ◌^◌, List, [], ◌∷◌, length, Option, Some, None, true}
use Rattle.std.proofs.Common.{false, eqb, refl, subst, arith}
use Rattle.std.specs.Prelude.{is_some, not, ◌||◌}
use Rattle.std.specs.Char.{is_ascii_digit, digit_value}
use Rattle.std.specs.List.{list_all, list_any}
use Rattle.std.specs.Str.Parse.{digits_value, AllDigits}
use Rattle.std.proofs.lemmas.Bool.{and_parts, eqb-true, le-leb}
use Rattle.std.proofs.lemmas.Bool.Decides.{nat_tests}
use Rattle.std.proofs.lemmas.Int.Digits.{digits_value-lt}
use Rattle.iso_codec.specs.Content.{has_class}
use Rattle.iso_codec.specs.Table.{format_of}
use Rattle.iso_codec.specs.Message.{IsoMessage, IsMessage, is_element, content_of, is_among}
use Rattle.iso_codec.proofs.ElementPlaces.{fits_by, text_fits}
use Rattle.acq_message.specs.declared.service.Service.{Service}
use Rattle.acq_message.specs.declared.service.Service.TheVariants.{NetworkManagement}
use Rattle.acq_message.specs.declared.request_message.RequestMessage.{RequestMessage}
use Rattle.acq_message.specs.FirstCheck.{is_malformed, has_one_of, unverifiable, has_bad_remainder}
use Rattle.acq_message.specs.Cards.{has_bad_track, has_two_cards}
use Rattle.acq_message.specs.Names.{is_merchant, is_terminal, is_trace, is_transmission}
use Rattle.acq_message.specs.Numbers.{is_amount}
use Rattle.acq_message.specs.Services.{needed, needed_card}
use Rattle.acq_message.specs.Elements.{has, or_empty, text_at, amount_in, key_of}
use Rattle.acq_soundness.proofs.Lookups.{or_split, not_false}
use Rattle.acq_soundness.specs.Rows.{FitsKey}
use Rattle.acq_soundness.proofs.Arrivals.{IsWhole}
use Rattle.acq_soundness.proofs.ReplyBodies.{among_passes}

-- the content of an element fits it
pub content-fits : (m : IsoMessage) (n : ℕ) (text : List ℕ) → IsMessage m →
    content_of m.elements n ≡ Some text → is_element (n, text) ≡ true
content-fits m n text whole e =
    fits_by (format_of n) n text (text_fits m.elements n text whole.each e)

text_at-fits : (m : IsoMessage) (n : ℕ) → IsMessage m → has m n ≡ true →
    is_element (n, text_at m n) ≡ true
text_at-fits m n whole there = step (content_of m.elements n) refl there
  where
    step : (o : Option (List ℕ)) → content_of m.elements n ≡ o → is_some o ≡ true →
        is_element (n, or_empty o) ≡ true
    step None e here = absurd cc
    step (Some text) e here = content-fits m n text whole e

-- ---- the key

merchant_in_element : (text : List ℕ) → is_element (42, text) ≡ true → is_merchant text ≡ true
unfolding format_of has_class
merchant_in_element text h = h

terminal_in_element : (text : List ℕ) → is_element (41, text) ≡ true → is_terminal text ≡ true
unfolding format_of has_class
terminal_in_element text h = h

trace_in_element : (text : List ℕ) → is_element (11, text) ≡ true → is_trace text ≡ true
unfolding format_of has_class
trace_in_element text h = h

transmission_in_element : (text : List ℕ) → is_element (7, text) ≡ true →
    is_transmission text ≡ true
unfolding format_of has_class
transmission_in_element text h = h

-- the elements of keys are needed of all requests that are recorded
abbrev pub key_elements : List ℕ
key_elements = 7 ∷ 11 ∷ 41 ∷ 42 ∷ []

key_elements-needed : (s : Service) → (s ≡ NetworkManagement → ⊥) →
    list_all (λ n. is_among (needed s) (n, [])) key_elements ≡ true
key_elements-needed NetworkManagement other = absurd (other refl)
key_elements-needed service other = refl

-- what the first check passes has all that is needed
needed_there : (s : Service) (m : IsoMessage) → is_malformed s m ≡ false →
    list_all (has m) (needed s) ≡ true
needed_there s m passes =
    let missing = not (list_all (has m) (needed s)) in
    let no_card = not (has_one_of m (needed_card s)) in
    let unverified = list_any (has m) unverifiable in
    let fifth = or_split (missing || no_card || unverified || has_bad_track m || has_two_cards m)
    (has_bad_remainder s m) passes in
    let fourth = or_split (missing || no_card || unverified || has_bad_track m)
    (has_two_cards m) fifth.0 in
    let third = or_split (missing || no_card || unverified) (has_bad_track m) fourth.0 in
    let second = or_split (missing || no_card) unverified third.0 in
    let first = or_split missing no_card second.0 in
    not_false (list_all (has m) (needed s)) first.0

pub key_of-fits : (r : RequestMessage) → IsWhole r → (r.service ≡ NetworkManagement → ⊥) →
    FitsKey (key_of r.service r.message)
key_of-fits r whole recordable = record {
  merchant = merchant_in_element (text_at r.message 42) (at 42 refl);
  terminal = terminal_in_element (text_at r.message 41) (at 41 refl);
  trace = trace_in_element (text_at r.message 11) (at 11 refl);
  transmission = transmission_in_element (text_at r.message 7) (at 7 refl);
}
  where
    at : (n : ℕ) → is_among key_elements (n, []) ≡ true → is_element (n, text_at r.message n) ≡ true
    at n key =
        let is_needed =
        among_passes (λ k. is_among (needed r.service) (k, [])) key_elements (n, [])
        (key_elements-needed r.service recordable) key in
        text_at-fits r.message n whole.message
        (among_passes (has r.message) (needed r.service) (n, [])
        (needed_there r.service r.message whole.passes) is_needed)

-- ---- the amount

digit_value-lt : (c : ℕ) → is_ascii_digit c ≡ true → digit_value c < 10
digit_value-lt c h = grind (arith, nat_tests)

all_digits : (text : List ℕ) → list_all is_ascii_digit text ≡ true → AllDigits 10 text
all_digits [] h = tt
all_digits (c ∷ cs) h =
    let parts = and_parts (is_ascii_digit c) (list_all is_ascii_digit cs) h in
    (digit_value-lt c parts.0, all_digits cs parts.1)

amount_in_element : (text : List ℕ) → is_element (4, text) ≡ true →
    is_amount (digits_value 10 text) ≡ true
unfolding format_of has_class
amount_in_element text h =
    let parts = and_parts (eqb (length text) 12) (list_all is_ascii_digit text) h in
    let twelve = eqb-true (length text) 12 parts.0 in
    let small = digits_value-lt 10 text (all_digits text parts.1) in
    let below : digits_value 10 text < 10 ^ 12 =
    subst (λ n. digits_value 10 text < 10 ^ n) twelve small in
    le-leb (digits_value 10 text) 999999999999 (omega arith)

pub amount_in-fits : (m : IsoMessage) → IsMessage m → is_amount (amount_in m) ≡ true
amount_in-fits m whole = step (content_of m.elements 4) refl
  where
    step : (o : Option (List ℕ)) → content_of m.elements 4 ≡ o →
        is_amount (digits_value 10 (or_empty o)) ≡ true
    step None e = refl
    step (Some text) e = amount_in_element text (content-fits m 4 text whole e)
