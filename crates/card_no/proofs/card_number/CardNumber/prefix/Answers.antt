use Rattle.std.proofs.Common.{sym, arith}
use Rattle.std.specs.Char.{is_ascii_digit}
use Rattle.std.proofs.lemmas.List.{length-take-le}
use Rattle.card_no.specs.Prefix.{prefix_digits}
use Rattle.card_no.proofs.DigitPlaces.{all-take, valid_digits}
use Rattle.card_no.proofs.card_number.CardNumber.prefix.Goals as goal

pub slice_bounds-of_digits-end : goal.slice_bounds-of_digits-end
slice_bounds-of_digits-end c =
    let digits = c.digits-digits.result.now in
    let valid = valid_digits digits c.digits-digits.ensures.valid in
    sym (length-take-le prefix_digits digits (omega (arith, valid.0)))

pub of_digits-requires-clause-each : goal.of_digits-requires-clause-each
of_digits-requires-clause-each c =
    let digits = c.digits-digits.result.now in
    all-take is_ascii_digit prefix_digits digits
    (valid_digits digits c.digits-digits.ensures.valid).2

pub of_digits-requires-clause-size : goal.of_digits-requires-clause-size
of_digits-requires-clause-size c =
    let digits = c.digits-digits.result.now in
    let valid = valid_digits digits c.digits-digits.ensures.valid in
    length-take-le prefix_digits digits (omega (arith, valid.0))
