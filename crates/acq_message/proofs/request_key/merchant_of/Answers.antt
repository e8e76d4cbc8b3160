use Rattle.std.proofs.Common.{refl}
use Rattle.acq_message.proofs.NeededElements.{key_fits}
use Rattle.acq_message.proofs.ElementsFit.{names_merchant}
use Rattle.acq_message.proofs.request_key.merchant_of.Goals as goal

pub unreachable-requires : goal.unreachable-requires
unreachable-requires c =
    let fits = key_fits c.args.request.now c.as_request.result.now 42 c.content_at.result.now
    c.as_request.ensures.value c.as_request.ensures.passed c.requires refl c.content_at.ensures.fits
    in
    c.in_default.ensures (names_merchant c.content_at.result.now fits)
