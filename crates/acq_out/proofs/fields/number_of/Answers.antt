use Rattle.std.proofs.Common.{◌≡◌, ◌∙◌, sym, true, length}
use Rattle.std.specs.List.{list_all}
use Rattle.std.specs.Char.{is_ascii_digit}
use Rattle.std.specs.Prelude.{◌&&◌, nat_le}
use Rattle.std.proofs.lemmas.Bool.{and_parts, leb-true}
use Rattle.acq_out.specs.Fields.{is_number_text}
use Rattle.acq_out.proofs.TwelveDigits.{twelve_digits}
use Rattle.acq_out.proofs.fields.number_of.Goals as goal

pub returns-then-is_number_text-clause-range : goal.returns-then-is_number_text-clause-range
returns-then-is_number_text-clause-range c =
    let text = c.args.text.now in
    let form : is_number_text text ≡ true = sym c.is_number_text.ensures ∙ c.if-is_number_text.true
    in
    let parts = and_parts (nat_le 1 (length text) && nat_le (length text) 12)
    (list_all is_ascii_digit text) form in
    let sizes = and_parts (nat_le 1 (length text)) (nat_le (length text) 12) parts.0 in
    twelve_digits c.digits_value.result (length text) c.digits_value.ensures.bound
    (leb-true (length text) 12 sizes.1)
