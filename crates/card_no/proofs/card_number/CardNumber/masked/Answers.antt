use Rattle.std.proofs.Common.{arith}
use Rattle.card_no.proofs.DigitPlaces.{valid_digits}
use Rattle.card_no.proofs.card_number.CardNumber.masked.Goals as goal

pub of-requires-clause-least : goal.of-requires-clause-least
of-requires-clause-least c = let valid = valid_digits c.digits.result.now c.digits.ensures.valid in
    omega (arith, valid.0)

pub of-requires-clause-greatest : goal.of-requires-clause-greatest
of-requires-clause-greatest c = let valid = valid_digits c.digits.result.now c.digits.ensures.valid
    in
    omega (arith, valid.1)

pub of-requires-clause-each : goal.of-requires-clause-each
of-requires-clause-each c = (valid_digits c.digits.result.now c.digits.ensures.valid).2
