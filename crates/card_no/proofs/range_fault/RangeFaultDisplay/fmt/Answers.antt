use Rattle.std.proofs.Common.{◌≡◌}
use Rattle.std.specs.Fmt.{styled_decimal}
use Rattle.card_no.specs.FaultTexts.{end_text}
use Rattle.card_no.proofs.RangeEndText.{styled_decimal-end}
use Rattle.card_no.proofs.range_fault.RangeFaultDisplay.fmt.Goals as goal

pub returns-in-Overlap-clause-writes : goal.returns-in-Overlap-clause-writes
returns-in-Overlap-clause-writes g c = λ plain ok.
    let r = c.in-Overlap.other in
    let low : styled_decimal c.laid_out.result r.low ≡ end_text r.low =
    rw c.laid_out.ensures (styled_decimal-end r.low) in
    let high : styled_decimal c.laid_out-in-Overlap.result r.high ≡ end_text r.high =
    rw c.laid_out-in-Overlap.ensures (styled_decimal-end r.high) in
    rw (c.in-Overlap.is, ← low, ← high) (c.write.ensures.writes plain ok)
