use Rattle.std.proofs.Common.{length, ◌-◌}
use Rattle.acq_link.proofs.WholeTransfers.{WroteFirst}
use Rattle.acq_link.proofs.transfer.write_out.Given as goal

abbrev pub invariant-loop-written : goal.invariant-loop-written
invariant-loop-written g l = WroteFirst (g.K.Sink.sent l.fn.sink) (g.K.Sink.sent l.sink)
    (g.K.Sink.failures l.fn.sink) (g.K.Sink.failures l.sink) l.bytes l.written

abbrev pub decreases-loop-written : goal.decreases-loop-written
decreases-loop-written g l = length l.bytes - l.written
