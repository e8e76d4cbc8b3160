use Rattle.std.proofs.Common.{◌≡◌, ℕ, true, List, length, Some, sym, ap, ◌∙◌, arith}
use Rattle.std.proofs.lemmas.Bool.{le-leb}
use Rattle.std.specs.List.{list_all}
use Rattle.std.specs.Char.{is_ascii_digit}
use Rattle.std.specs.Str.Parse.{digits_value}
use Rattle.iso_codec.specs.Message.{IsoMessage}
use Rattle.acq_message.specs.Elements.{text_at, reference_in}
use Rattle.acq_message.proofs.ElementsFit.{some_where, reference_length, below_twelve}
use Rattle.acq_message.proofs.elements.reference_in.Goals as goal

pub digits_value-requires-clause-size : goal.digits_value-requires-clause-size
digits_value-requires-clause-size c =
    let fit = reference_length c.args.message.now c.content_at-text.result.now
    c.content_at-text.ensures.value
    c.content_at-text.ensures.fits in
    omega (arith, fit)

is_reference_in : (m : IsoMessage) (text : List ℕ) (n : ℕ) → text ≡ text_at m 37 →
    list_all is_ascii_digit text ≡ true
    → n ≡ digits_value 10 text → Some n ≡ reference_in m
is_reference_in m text n value each is =
    let all : list_all is_ascii_digit (text_at m 37) ≡ true =
    ap (list_all is_ascii_digit) (sym value) ∙ each in
    rw all (ap Some (is ∙ ap (digits_value 10) value))

pub returns-then-all_digits : goal.returns-then-all_digits
returns-then-all_digits c =
    let fit = reference_length c.args.message.now c.content_at-text.result.now
    c.content_at-text.ensures.value
    c.content_at-text.ensures.fits in
    let small = le-leb c.digits_value.result 999_999_999_999 (below_twelve c.digits_value.result
    (length c.content_at-text.result.now) c.digits_value.ensures.bound fit) in
    let there = some_where c.from_number.result _ c.digits_value.result c.from_number.ensures small
    in
    there ∙ is_reference_in c.args.message.now c.content_at-text.result.now c.digits_value.result
    c.content_at-text.ensures.value (sym c.all_digits.ensures ∙ c.if-all_digits.true)
    c.digits_value.ensures.value
