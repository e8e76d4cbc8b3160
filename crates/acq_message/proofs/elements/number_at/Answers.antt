use Rattle.acq_message.proofs.ElementsFit.{short_digits}
use Rattle.acq_message.proofs.elements.number_at.Goals as goal

pub digits_value-requires : goal.digits_value-requires
digits_value-requires c =
    let fit = short_digits c.args.message.now c.args.number c.content_at.result.now c.requires
    c.content_at.ensures.value c.content_at.ensures.fits in
    record { each = fit.1; size = fit.0 }
