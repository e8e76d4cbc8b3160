use Rattle.std.proofs.Common.{arith, length}
use Rattle.std.proofs.lemmas.Bool.{le-leb}
use Rattle.acq_message.proofs.ElementsFit.{amount_digits, below_twelve}
use Rattle.acq_message.proofs.elements.amount_in.Goals as goal

pub digits_value-requires : goal.digits_value-requires
digits_value-requires c =
    let fit = amount_digits c.args.message.now c.content_at.result.now c.content_at.ensures.value
    c.content_at.ensures.fits in
    record { each = fit.1; size = omega (arith, fit.0) }

pub unreachable-requires : goal.unreachable-requires
unreachable-requires c =
    let fit = amount_digits c.args.message.now c.content_at.result.now c.content_at.ensures.value
    c.content_at.ensures.fits in
    c.in_default.ensures (le-leb c.digits_value.result 999_999_999_999
    (below_twelve c.digits_value.result (length c.content_at.result.now)
    c.digits_value.ensures.bound fit.0))
