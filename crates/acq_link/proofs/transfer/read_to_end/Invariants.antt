use Rattle.std.proofs.Common.{◌≡◌, ◌+◌}
use Rattle.acq_link.proofs.WholeTransfers.{ReadAll}
use Rattle.acq_link.proofs.transfer.read_to_end.Given as goal

abbrev pub invariant-loop : goal.invariant-loop
invariant-loop g l =
    ReadAll (g.S.Source.received l.fn.source) (g.S.Source.received l.source)
    (g.S.Source.remaining l.fn.source)
    (g.S.Source.remaining l.source)
    (g.S.Source.failures l.fn.source) (g.S.Source.failures l.source) l.all.items
    × (g.S.Source.reads_left l.source + l.counter ≡ l.reads)
