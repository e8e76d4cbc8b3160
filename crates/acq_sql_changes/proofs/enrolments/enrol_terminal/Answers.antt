use Rattle.std.proofs.Common.{refl}
use Rattle.acq_core.specs.declared.change.Change.TheVariants as change
use Rattle.acq_sql_writes.specs.Written.{with_terminal}
use Rattle.acq_sql_writes.specs.Refused.{AnyTables, HasTables, TakesTerminal}
use Rattle.acq_sql_changes.proofs.Outcomes.{ends}
use Rattle.acq_sql_changes.proofs.Progress.{unwritten}
use Rattle.acq_sql_changes.proofs.TakenTables.{takes_terminal}
use Rattle.acq_sql_changes.proofs.enrolments.enrol_terminal.Goals as goal

pub returns : goal.returns
returns g c =
    let x = c.args.terminal.now in
    ends (change.AddTerminal x) AnyTables (unwritten _) c.add_terminal.result
    (with_terminal x) c.add_terminal.ensures.writes
    (HasTables (TakesTerminal x)) c.add_terminal.ensures.fails
    (λ t taken rows. (t, taken.holds.runs, takes_terminal x taken, rows)) (λ t m d. refl)
