use Rattle.acq_message.proofs.NeededElements.{needed_fits, names_service, original_parts}
use Rattle.acq_message.proofs.request_key.original_key.Goals as goal

pub trace_in-requires : goal.trace_in-requires
trace_in-requires c =
    let r = c.args.request.now in
    let fits = needed_fits r c.as_request.result.now 90 c.content_at-original.result.now
    c.as_request.ensures.value
    c.as_request.ensures.passed (names_service r.service c.requires).1
    c.content_at-original.ensures.fits in
    rw c.part-2.ensures (original_parts c.content_at-original.result.now fits).0

pub transmission_in-requires : goal.transmission_in-requires
transmission_in-requires c =
    let r = c.args.request.now in
    let fits = needed_fits r c.as_request.result.now 90 c.content_at-original.result.now
    c.as_request.ensures.value
    c.as_request.ensures.passed (names_service r.service c.requires).1
    c.content_at-original.ensures.fits in
    rw c.part-3.ensures (original_parts c.content_at-original.result.now fits).1
