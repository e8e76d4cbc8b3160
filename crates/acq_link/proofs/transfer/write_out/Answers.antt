use Rattle.acq_link.proofs.WholeTransfers.{WroteFirst-more}
use Rattle.acq_link.proofs.transfer.write_out.Goals as goal

pub loop-written-preserved : goal.loop-written-preserved
loop-written-preserved g c =
    WroteFirst-more _ _ _ _ _ _ _ _ _ c.loop-written.invariant c.in-Ok.ensures.bound
    c.in-Ok.ensures.sent c.in-Ok.ensures.failures
