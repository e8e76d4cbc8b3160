use Rattle.std.proofs.Common.{refl}
use Rattle.acq_message.proofs.NeededElements.{key_fits}
use Rattle.acq_message.proofs.NeededElements.{names_terminal}
use Rattle.acq_message.proofs.request_key.terminal_of.Goals as goal

pub unreachable-requires : goal.unreachable-requires
unreachable-requires c =
    let fits = key_fits c.args.request.now c.as_request.result.now 41 c.content_at.result.now
    c.as_request.ensures.value c.as_request.ensures.passed c.requires refl c.content_at.ensures.fits
    in
    c.in_default.ensures (names_terminal c.content_at.result.now fits)
