-- the drops among the rows so far were put
use Rattle.std.proofs.Common.{◌≡◌, ◌++◌, map, take}
use Rattle.acq_range_changes.specs.Changes.{drop_of, others}
use Rattle.acq_range_changes.proofs.changes.put_drops.Given as goal

abbrev pub invariant-loop-row : goal.invariant-loop-row
invariant-loop-row l =
    l.events.items ≡ l.fn.events.items ++ map drop_of (others l.list (take l.row-index l.rows))
