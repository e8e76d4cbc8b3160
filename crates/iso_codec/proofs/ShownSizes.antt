-- What is shown of a message, by its spans.
use Rattle.std.proofs.Common.{◌≡◌, ℕ, ◌+◌, ◌≤◌, true, List, [], ◌∷◌, ◌++◌, length}
use Rattle.std.proofs.Common.{◌<◌, take, drop, get_or, refl, sym, ap, ◌∙◌, append_assoc, leb, arith}
use Rattle.std.specs.Prelude.{IsAscii, codes}
use Rattle.std.specs.List.{list_all, flat_map}
use Rattle.std.specs.Char.{is_ascii_digit}
use Rattle.std.proofs.lemmas.Bool.{and_parts, leb-true}
use Rattle.std.proofs.lemmas.List.{length-take-le, length-drop, take_all, take_more, append-nil}
use Rattle.std.proofs.lemmas.List.Concat.{flat_map-append}
use Rattle.std.proofs.lemmas.Str.Ascii.{IsAscii-nil, IsAscii-cons}
use Rattle.iso_codec.specs.Message.{IsoMessage}
use Rattle.iso_codec.specs.declared.span.Span.{Span}
use Rattle.iso_codec.specs.Shown.{shown_size, shown_element, shown_message}
use Rattle.iso_codec.specs.Span.{is_within, element_at, elements_in}

abbrev pub shown_span : Span → List ℕ
shown_span s = shown_size s.number s.len

size-within : (bytes : List ℕ) (s : Span) → s.start + s.len ≤ length bytes
    → length (take s.len (drop s.start bytes)) ≡ s.len
size-within bytes s h =
    length-take-le s.len (drop s.start bytes) (omega (arith, length-drop s.start bytes))

pub shown-elements : (bytes : List ℕ) (spans : List Span)
    → list_all (is_within (length bytes)) spans ≡ true →
    flat_map shown_span spans ≡ flat_map shown_element (elements_in bytes spans)
shown-elements bytes [] h = refl
shown-elements bytes (s ∷ ss) h =
    let p = and_parts (is_within (length bytes) s) (list_all (is_within (length bytes)) ss) h in
    let here : shown_span s ≡ shown_element (element_at bytes s) =
    rw (size-within bytes s (leb-true (s.start + s.len) (length bytes) p.0)) refl in
    ap (λ (t : List ℕ). t ++ flat_map shown_span ss) here
    ∙ ap (λ (t : List ℕ). shown_element (element_at bytes s) ++ t) (shown-elements bytes ss p.1)

pub digits-ascii : (xs : List ℕ) → list_all is_ascii_digit xs ≡ true → IsAscii xs
digits-ascii [] h = IsAscii-nil
digits-ascii (x ∷ xs) h =
    let p = and_parts (is_ascii_digit x) (list_all is_ascii_digit xs) h in
    let below : x ≤ 57 = leb-true x 57 (and_parts (leb 48 x) (leb x 57) p.0).1 in
    IsAscii-cons x xs (omega arith) (digits-ascii xs p.1)

-- one size more, behind the type and the sizes before it
pub shown-more : (kind : List ℕ) (spans : List Span) (i : ℕ) (s : Span) → i < length spans
    → s ≡ get_or spans i s
    → codes "Message(" ++ (kind ++ flat_map shown_span (take (i + 1) spans))
    ≡ (codes "Message(" ++ (kind ++ flat_map shown_span (take i spans))) ++ shown_span s
shown-more kind spans i s lt is =
    let front = flat_map shown_span (take i spans) in
    let one : flat_map shown_span (take (i + 1) spans) ≡ front ++ shown_span s =
    ap (λ (ss : List Span). flat_map shown_span ss) (take_more spans i s lt)
    ∙ flat_map-append shown_span (take i spans) (get_or spans i s ∷ [])
    ∙ ap (λ (t : List ℕ). front ++ t) (append-nil (shown_span (get_or spans i s)))
    ∙ ap (λ (x : Span). front ++ shown_span x) (sym is) in
    ap (λ (t : List ℕ). codes "Message(" ++ (kind ++ t)) one
    ∙ ap (λ (t : List ℕ). codes "Message(" ++ t) (sym (append_assoc kind front (shown_span s)))
    ∙ sym (append_assoc (codes "Message(") (kind ++ front) (shown_span s))

-- the sizes of all spans, behind the type, are those of the message's elements
pub shown-whole : (m : IsoMessage) (bytes : List ℕ) (stored spans : List Span) (i : ℕ)
    → elements_in bytes stored ≡ m.elements → list_all (is_within (length bytes)) stored ≡ true
    → spans ≡ stored → length spans ≤ i
    → (codes "Message(" ++ (m.kind ++ flat_map shown_span (take i spans))) ++ codes ")"
    ≡ shown_message m
shown-whole m bytes stored spans i is within same all =
    let sizes : flat_map shown_span (take i spans) ≡ flat_map shown_element m.elements =
    ap (λ (ss : List Span). flat_map shown_span ss) (take_all i spans all ∙ same)
    ∙ shown-elements bytes stored within
    ∙ ap (λ (es : List (ℕ × List ℕ)). flat_map shown_element es) is in
    rw sizes
    (append_assoc (codes "Message(") (m.kind ++ flat_map shown_element m.elements) (codes ")")
    ∙ ap (λ (t : List ℕ). codes "Message(" ++ t)
    (append_assoc m.kind (flat_map shown_element m.elements) (codes ")")))
