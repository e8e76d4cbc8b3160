use Rattle.std.proofs.Common.{refl}
use Rattle.acq_core.specs.declared.change.Change.TheVariants as change
use Rattle.acq_sql_writes.specs.Written.{on_day}
use Rattle.acq_sql_writes.specs.Refused.{AnyTables, HasTables}
use Rattle.acq_sql_changes.proofs.Outcomes.{ends}
use Rattle.acq_sql_changes.proofs.Progress.{unwritten}
use Rattle.acq_sql_changes.proofs.cutover.cut_over.Goals as goal

pub returns : goal.returns
returns g c =
    ends (change.SetDay c.args.day) AnyTables (unwritten _) c.set_day.result
    (on_day c.args.day) c.set_day.ensures.writes
    (HasTables AnyTables) c.set_day.ensures.fails
    (λ t taken rows. (t, taken.holds.runs, tt, rows)) (λ t m d. refl)
