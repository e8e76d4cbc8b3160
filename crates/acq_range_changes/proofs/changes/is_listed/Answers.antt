use Rattle.std.proofs.Common.{refl}
use Rattle.acq_range_changes.proofs.Listed.{no_range_above}
use Rattle.acq_range_changes.proofs.changes.is_listed.Goals as goal

pub returns-in-None : goal.returns-in-None
returns-in-None c =
    let ranges = rw c.as_slice-ranges.ensures.value at c.as_slice-ranges.ensures.apart in
    rw (no_range_above c.args.list.now c.args.range.now.low ranges c.in-None.ensures) refl
