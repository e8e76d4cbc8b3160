use Rattle.std.proofs.Common.{refl}
use Rattle.acq_core.specs.declared.change.Change.TheVariants as change
use Rattle.acq_sql_writes.specs.Written.{with_dropped_range}
use Rattle.acq_sql_writes.specs.Refused.{AnyTables, HasTables}
use Rattle.acq_sql_changes.proofs.Outcomes.{ends}
use Rattle.acq_sql_changes.proofs.Progress.{unwritten}
use Rattle.acq_sql_changes.proofs.ranges.drop_range.Goals as goal

pub returns : goal.returns
returns g c =
    ends (change.DropRange c.args.low c.args.high) AnyTables (unwritten _) c.drop_range.result
    (with_dropped_range c.args.low c.args.high) c.drop_range.ensures.writes
    (HasTables AnyTables) c.drop_range.ensures.fails
    (λ t taken rows. (t, taken.holds.runs, tt, rows)) (λ t m d. refl)
