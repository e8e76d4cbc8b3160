use Rattle.std.proofs.Common.{◌≡◌, true, false}
use Rattle.acq_message.proofs.ElementsFit.{settlement_date_length}
use Rattle.acq_message.proofs.elements.settlement_date.Goals as goal

pub unreachable-requires : goal.unreachable-requires
unreachable-requires c =
    let fits : false ≡ true =
    c.in_default.ensures.0 (settlement_date_length c.in_ok-date.date.now c.in_ok-date.ensures.fits)
    in
    cc
