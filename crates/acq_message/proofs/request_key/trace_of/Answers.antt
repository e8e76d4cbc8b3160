use Rattle.std.proofs.Common.{refl}
use Rattle.acq_message.proofs.NeededElements.{key_fits, names_trace}
use Rattle.acq_message.proofs.request_key.trace_of.Goals as goal

pub trace_in-requires : goal.trace_in-requires
trace_in-requires c =
    let fits = key_fits c.args.request.now c.as_request.result.now 11 c.content_at.result.now
    c.as_request.ensures.value c.as_request.ensures.passed c.requires refl c.content_at.ensures.fits
    in
    names_trace c.content_at.result.now fits
