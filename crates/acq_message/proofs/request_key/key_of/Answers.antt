use Rattle.std.proofs.Common.{refl}
use Rattle.acq_message.proofs.NeededElements.{key_fits, names_transmission}
use Rattle.acq_message.proofs.request_key.key_of.Goals as goal

pub transmission_in-requires : goal.transmission_in-requires
transmission_in-requires c =
    let fits = key_fits c.args.request.now c.as_request.result.now 7 c.content_at-sent.result.now
    c.as_request.ensures.value c.as_request.ensures.passed c.requires refl
    c.content_at-sent.ensures.fits in
    names_transmission c.content_at-sent.result.now fits
