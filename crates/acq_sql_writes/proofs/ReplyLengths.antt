-- A message is spelled in less than a million bytes.
use Rattle.std.proofs.Common.{◌≡◌, ℕ, ◌+◌, ◌*◌, ◌≤◌, ◌^◌, List, [], ◌∷◌, ◌++◌, length, Option, Some}
use Rattle.std.proofs.Common.{None, Bool, true, false, refl, sym, ap, ◌∙◌, arith, length-append}
use Rattle.std.proofs.Common.{nat_le, ◌==◌, inl, inr}
use Rattle.std.specs.Prelude.{MatchBool}
use Rattle.std.specs.List.{list_all}
use Rattle.std.proofs.lemmas.Bool.{and_parts, cases_Bool}
use Rattle.std.proofs.lemmas.Bool.Decides.{nat_tests}
use Rattle.iso_codec.specs.declared.form.Form.{Form}
use Rattle.iso_codec.specs.declared.form.Form.TheVariants.{Fixed, Llvar, Lllvar}
use Rattle.iso_codec.specs.declared.element_format.ElementFormat.{ElementFormat}
use Rattle.iso_codec.specs.Content.{has_length, has_class, allows, digits_of, spelled_by}
use Rattle.iso_codec.specs.Table.{rows, row_of, format_of}
use Rattle.iso_codec.specs.Message.{IsoMessage, IsMessage, IsBitmap, numbers, Ascends, is_element}
use Rattle.iso_codec.specs.Message.{spelled, body}
use Rattle.iso_codec.specs.Reading.{spelling}
use Rattle.iso_codec.proofs.OneMessage.{format_of_element}
use Rattle.iso_codec.proofs.TableBounds.{format_in_bounds}
use Rattle.iso_codec.proofs.SpellingComputes.{spelling_writes}

-- ---- the table

-- a form that takes at most 1002 bytes
abbrev is_low : Form → Bool
is_low (Fixed k) = nat_le k 999
is_low (Llvar greatest) = nat_le greatest 99
is_low (Lllvar greatest) = nat_le greatest 999

abbrev is_low_row : ℕ × ElementFormat → Bool
is_low_row r = is_low r.1.form

rows_low : list_all is_low_row rows ≡ true
rows_low = refl

row_low : (rs : List (ℕ × ElementFormat)) (n : ℕ) (r : ElementFormat)
    → list_all is_low_row rs ≡ true → row_of rs n ≡ Some r → is_low r.form ≡ true
row_low [] n r each is = absurd cc
row_low (x ∷ rs) n r each is =
    let parts = and_parts (is_low_row x) (list_all is_low_row rs) each in
    elim (cases_Bool (n == x.0)) [
      | inl here ↦
          let found : Some x.1 ≡ Some r = rw here at is in
          let same : x.1 ≡ r = cc in
          ap (λ (f : ElementFormat). is_low f.form) (sym same) ∙ parts.0
      | inr other ↦ row_low rs n r parts.1 (rw other at is)
    ]

format_low : (n : ℕ) (r : ElementFormat) → format_of n ≡ Some r → is_low r.form ≡ true
unfolding format_of
format_low n r is = row_low rows n r rows_low is

-- ---- one element

form_few : (f : Form) (text : List ℕ) → is_low f ≡ true → has_length f (length text) ≡ true
    → length (digits_of f (length text) ++ text) ≤ 1002
form_few (Fixed k) text low long = grind (arith, nat_tests, low, long)
form_few (Llvar greatest) text low long = grind (arith, nat_tests, low, long)
form_few (Lllvar greatest) text low long = grind (arith, nat_tests, low, long)

element_few : (o : Option ElementFormat) (f : ElementFormat) (text : List ℕ) → o ≡ Some f
    → is_low f.form ≡ true → allows o text ≡ true → length (spelled_by o text) ≤ 1002
element_few None f text is low allowed = absurd (cc)
element_few (Some g) f text is low allowed =
    let parts = and_parts (has_length g.form (length text)) (has_class g.class text) allowed in
    let same : g ≡ f = cc in
    form_few g.form text (ap (λ (h : ElementFormat). is_low h.form) same ∙ low) parts.0

-- ---- all elements

body_few : (low : ℕ) (es : List (ℕ × List ℕ)) → low ≤ 128 → Ascends low (numbers es)
    → list_all is_element es ≡ true → length (body es) + 1002 * low ≤ 1002 * 128
body_few low [] few up each = omega (arith, few)
body_few low (e ∷ es) few up each =
    let parts = and_parts (is_element e) (list_all is_element es) each in
    let rule = format_of_element e.0 e.1 parts.0 in
    let sound = format_in_bounds e.0 rule.0 rule.1 in
    let one = element_few (format_of e.0) rule.0 e.1 rule.1
    (format_low e.0 rule.0 rule.1) parts.0 in
    let rest = body_few e.0 es sound.2 up.1 parts.1 in
    let sum = length-append (spelled e) (body es) in
    let above = up.0 in
    omega (arith, one, rest, sum, above)

second_few : (b : Bool) (second : List ℕ) (bits : ℕ)
    → MatchBool b (IsBitmap second bits) ((second ≡ []) × (bits ≡ 0)) → length second ≤ 16
second_few true second bits h = let size = h.size in omega (arith, size)
second_few false second bits h = let none = ap length h.0 in omega (arith, none)

pub spelling_few : (m : IsoMessage) → IsMessage m → length (spelling m) ≤ 10 ^ 6
spelling_few m is =
    let w = spelling_writes m is in
    let elements = body_few 1 m.elements (omega arith) is.ascends is.each in
    let four = is.kind_fits.size in
    let first = w.digits_fit.primary.size in
    let second = second_few _ w.digits_fit.second w.bitmaps.secondary w.digits_fit.secondary in
    let parts : length (spelling m) ≡ length m.kind + (length w.digits + length (body m.elements)) =
    ap length w.parts ∙ length-append m.kind (w.digits ++ body m.elements)
    ∙ ap (λ (n : ℕ). length m.kind + n) (length-append w.digits (body m.elements)) in
    let digits : length w.digits ≡ length w.digits_fit.first + length w.digits_fit.second =
    ap length w.digits_fit.parts ∙ length-append w.digits_fit.first w.digits_fit.second in
    omega (arith, elements, four, first, second, parts, digits)
