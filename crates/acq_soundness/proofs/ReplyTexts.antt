-- The text of a reply fits a frame, and is printable.
use Rattle.std.proofs.Common.{◌≡◌, ℕ, ◌+◌, ◌*◌, ◌/◌, ◌%◌, ◌≤◌, List, [], ◌∷◌, ◌++◌, length, Option}
use Rattle.std.proofs.Common.{Some, None, Bool, true, false, eqb, leb, refl, sym, ap, ◌∙◌, subst}
use Rattle.std.proofs.Common.{arith, length-append}
use Rattle.std.specs.Prelude.{MatchBool, ◌&&◌, ◌||◌}
use Rattle.std.specs.List.{list_all}
use Rattle.std.specs.Char.{is_ascii_digit}
use Rattle.std.proofs.lemmas.Bool.{and_parts, and_from, eqb-true, leb-true}
use Rattle.std.proofs.lemmas.Bool.Decides.{nat_tests}
use Rattle.iso_codec.specs.declared.class.Class.{Class}
use Rattle.iso_codec.specs.declared.class.Class.TheVariants.{Numeric, Alphanumeric, Printable}
use Rattle.iso_codec.specs.declared.class.Class.TheVariants.{SignedNumeric}
use Rattle.iso_codec.specs.declared.form.Form.{Form}
use Rattle.iso_codec.specs.declared.form.Form.TheVariants.{Fixed, Llvar, Lllvar}
use Rattle.iso_codec.specs.declared.element_format.ElementFormat.{ElementFormat}
use Rattle.iso_codec.specs.Content.{has_length, has_class, allows, digits_of, spelled_by}
use Rattle.iso_codec.specs.Content.{is_printable, is_alphanumeric}
use Rattle.iso_codec.specs.Table.{format_of}
use Rattle.iso_codec.specs.Message.{IsoMessage, IsBitmap, numbers, Ascends, is_element}
use Rattle.iso_codec.specs.Message.{is_upper_hex, spelled, body, is_among}
use Rattle.iso_codec.specs.Reading.{spelling}
use Rattle.iso_codec.proofs.OneMessage.{format_of_element}
use Rattle.iso_codec.proofs.TableBounds.{format_in_bounds}
use Rattle.iso_codec.proofs.SpellingComputes.{spelling_writes}
use Rattle.iso_codec.proofs.WrittenIsRead.{all_append}
use Rattle.acq_message.specs.declared.service.Service.{Service}
use Rattle.acq_soundness.specs.Replies.{reply_elements, IsReply, IsReplyText}
use Rattle.acq_soundness.proofs.ReplyBodies.{may_have, all_weaker, among_passes, body_of_reply}

-- ---- bytes

digit_printable : (b : ℕ) → is_ascii_digit b ≡ true → is_printable b ≡ true
digit_printable b h = grind (arith, nat_tests)

alphanumeric_printable : (b : ℕ) → is_alphanumeric b ≡ true → is_printable b ≡ true
alphanumeric_printable b h = grind (arith, nat_tests)

upper_hex_printable : (b : ℕ) → is_upper_hex b ≡ true → is_printable b ≡ true
upper_hex_printable b h = grind (arith, nat_tests)

sign_printable : (b : ℕ) → (eqb b 67 || eqb b 68) ≡ true → is_printable b ≡ true
sign_printable b h = grind (arith, nat_tests)

-- two digits of a length
two_printable : (n : ℕ) → n ≤ 99 → list_all is_printable ((48 + n / 10) ∷ (48 + n % 10) ∷ []) ≡ true
two_printable n h = grind (arith, nat_tests)

-- ---- one element

-- a class of printable bytes
abbrev pub is_plain_class : Class → Bool
is_plain_class Numeric = true
is_plain_class Alphanumeric = true
is_plain_class Printable = true
is_plain_class SignedNumeric = true
is_plain_class other = false

-- a form that takes at most 21 bytes
abbrev pub is_short_form : Form → Bool
is_short_form (Fixed k) = leb k 21
is_short_form (Llvar greatest) = leb greatest 19
is_short_form (Lllvar greatest) = false

abbrev pub is_plain_format : Option ElementFormat → Bool
is_plain_format None = false
is_plain_format (Some format) = is_plain_class format.class && is_short_form format.form

-- the elements of replies are all such
abbrev pub are_plain : List ℕ → Bool
are_plain ns = list_all (λ n. is_plain_format (format_of n)) ns

reply_elements-plain : are_plain reply_elements ≡ true
unfolding format_of
reply_elements-plain = refl

plain_text : (c : Class) (text : List ℕ) → is_plain_class c ≡ true → has_class c text ≡ true →
    list_all is_printable text ≡ true
unfolding has_class
plain_text Numeric text h k = all_weaker is_ascii_digit is_printable digit_printable text k
plain_text Alphanumeric text h k =
    all_weaker is_alphanumeric is_printable alphanumeric_printable text k
plain_text Printable text h k = k
plain_text SignedNumeric [] h k = refl
plain_text SignedNumeric (b ∷ bs) h k =
    let parts = and_parts (eqb b 67 || eqb b 68) (list_all is_ascii_digit bs) k in
    and_from (is_printable b) (list_all is_printable bs) (sign_printable b parts.0)
    (all_weaker is_ascii_digit is_printable digit_printable bs parts.1)
plain_text other text h k = absurd cc

-- short and printable
pub record IsPlain (text : List ℕ) : Type 0 where
  pub short : length text ≤ 21
  pub printable : list_all is_printable text ≡ true

plain_form : (f : Form) (text : List ℕ) → is_short_form f ≡ true →
    has_length f (length text) ≡ true →
    list_all is_printable text ≡ true → IsPlain (digits_of f (length text) ++ text)
plain_form (Fixed k) text h long plain =
    let is = eqb-true (length text) k long in
    let le = leb-true k 21 h in
    record { short = omega arith; printable = plain }
plain_form (Llvar greatest) text h long plain =
    let le = leb-true (length text) greatest long in
    let small = leb-true greatest 19 h in
    record {
      short = omega arith;
      printable =
          all_append is_printable ((48 + length text / 10) ∷ (48 + length text % 10) ∷ []) text
          (two_printable (length text) (omega arith)) plain;
    }
plain_form (Lllvar greatest) text h long plain = absurd cc

plain_spelled : (o : Option ElementFormat) (text : List ℕ) → is_plain_format o ≡ true →
    allows o text ≡ true → IsPlain (spelled_by o text)
plain_spelled None text h k = absurd cc
plain_spelled (Some f) text h k =
    let a = and_parts (is_plain_class f.class) (is_short_form f.form) h in
    let b = and_parts (has_length f.form (length text)) (has_class f.class text) k in
    plain_form f.form text a.1 b.0 (plain_text f.class text a.0 b.1)

plain_element : (e : ℕ × List ℕ) → may_have e ≡ true → IsPlain (spelled e)
plain_element e h =
    let parts = and_parts (is_element e) (is_among reply_elements e) h in
    plain_spelled (format_of e.0) e.1
    (among_passes (λ n. is_plain_format (format_of n)) reply_elements e reply_elements-plain
    parts.1) parts.0

-- ---- all elements

-- at most 21 bytes each
pub record IsPlainBody (es : List (ℕ × List ℕ)) : Type 0 where
  pub short : length (body es) ≤ 21 * length es
  pub printable : list_all is_printable (body es) ≡ true

plain_body : (es : List (ℕ × List ℕ)) → list_all may_have es ≡ true → IsPlainBody es
plain_body [] h = record { short = omega arith; printable = refl }
plain_body (e ∷ es) h =
    let parts = and_parts (may_have e) (list_all may_have es) h in
    let one = plain_element e parts.0 in
    let rest = plain_body es parts.1 in
    let sum = length-append (spelled e) (body es) in
    let short_one = one.short in
    let short_rest = rest.short in
    record {
      short = omega arith;
      printable = all_append is_printable (spelled e) (body es) one.printable rest.printable;
    }

-- no more than 127
few : (low : ℕ) (es : List (ℕ × List ℕ)) → low ≤ 128 → Ascends low (numbers es) →
    list_all is_element es ≡ true → length es + low ≤ 128
few low [] le up k = omega arith
few low (e ∷ es) le up k =
    let parts = and_parts (is_element e) (list_all is_element es) k in
    let rule = format_of_element e.0 e.1 parts.0 in
    let sound = format_in_bounds e.0 rule.0 rule.1 in
    let high = sound.2 in
    let above = up.0 in
    let rest = few e.0 es high up.1 parts.1 in
    omega arith

-- ---- the whole

second_small : (b : Bool) (second : List ℕ) (bits : ℕ) →
    MatchBool b (IsBitmap second bits) ((second ≡ []) × (bits ≡ 0)) → length second ≤ 16
second_small true second bits h = let size = h.size in omega arith
second_small false second bits h = rw h.0 (omega arith)

pub text_of_reply : (service : Service) (m : IsoMessage) → IsReply service m →
    IsReplyText (spelling m)
text_of_reply service m r =
    let w = spelling_writes m r.is_message in
    let b = body_of_reply service m r in
    let plain = plain_body m.elements b.each in
    let short = plain.short in
    let count = few 1 m.elements (omega arith) r.is_message.ascends r.is_message.each in
    let four = r.is_message.kind_fits.size in
    let first = w.digits_fit.primary.size in
    let second = second_small _ w.digits_fit.second w.bitmaps.secondary w.digits_fit.secondary in
    let parts : length (spelling m) ≡ length m.kind + (length w.digits + length (body m.elements)) =
    ap length w.parts ∙ length-append m.kind (w.digits ++ body m.elements)
    ∙ ap (λ (n : ℕ). length m.kind + n) (length-append w.digits (body m.elements)) in
    let digits : length w.digits ≡ length w.digits_fit.first + length w.digits_fit.second =
    ap length w.digits_fit.parts ∙ length-append w.digits_fit.first w.digits_fit.second in
    record {
      service = service;
      reply = m;
      is_reply = r;
      spelled = refl;
      not_empty = omega arith;
      fits = omega arith;
      printable =
          subst (λ (text : List ℕ). list_all is_printable text ≡ true) (sym w.parts)
          (all_append is_printable m.kind (w.digits ++ body m.elements)
          (all_weaker is_ascii_digit is_printable digit_printable m.kind
          r.is_message.kind_fits.digits)
          (all_append is_printable w.digits (body m.elements)
          (all_weaker is_upper_hex is_printable upper_hex_printable w.digits w.upper_case)
          plain.printable));
    }
