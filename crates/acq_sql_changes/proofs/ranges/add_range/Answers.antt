use Rattle.std.proofs.Common.{refl}
use Rattle.acq_core.specs.declared.change.Change.TheVariants as change
use Rattle.acq_sql_writes.specs.Written.{with_added_range}
use Rattle.acq_sql_writes.specs.Refused.{AnyTables, HasTables, TakesRange}
use Rattle.acq_sql_changes.proofs.Outcomes.{ends}
use Rattle.acq_sql_changes.proofs.Progress.{unwritten}
use Rattle.acq_sql_changes.proofs.TakenTables.{takes_range}
use Rattle.acq_sql_changes.proofs.ranges.add_range.Goals as goal

pub returns : goal.returns
returns g c =
    let r = c.args.range.now in
    ends (change.AddRange r) AnyTables (unwritten _) c.add_range.result
    (with_added_range r) c.add_range.ensures.writes
    (HasTables (TakesRange r)) c.add_range.ensures.fails
    (λ t taken rows. (t, taken.holds.runs, takes_range r taken, rows)) (λ t m d. refl)
