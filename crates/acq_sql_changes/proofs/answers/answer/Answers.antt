use Rattle.std.proofs.Common.{None, refl}
use Rattle.acq_core.specs.declared.change.Change.TheVariants as change
use Rattle.acq_core.specs.Tables.{answered_row}
use Rattle.acq_sql_writes.specs.Written.{with_answer}
use Rattle.acq_sql_writes.specs.Refused.{AnyTables, HasTables, HasShortRequests}
use Rattle.acq_sql_changes.proofs.ListTallies.{changed_tally}
use Rattle.acq_sql_changes.proofs.Outcomes.{ends}
use Rattle.acq_sql_changes.proofs.Progress.{unwritten}
use Rattle.acq_sql_changes.proofs.TakenTables.{short_requests}
use Rattle.acq_sql_changes.proofs.answers.answer.Goals as goal

pub returns : goal.returns
returns g c =
    let a = c.args.answer.now in
    ends (change.Answered a.key a.status a.reply.now a.hold_end None) AnyTables (unwritten _)
    c.answer_request.result (with_answer a.key a.status a.reply.now a.hold_end)
    c.answer_request.ensures.writes
    (HasTables HasShortRequests) c.answer_request.ensures.fails
    (λ t taken rows. (t, taken.holds.runs, short_requests taken, rows))
    (λ t. changed_tally t a.key (answered_row a.status a.reply.now a.hold_end)
    (λ row. (refl, refl, refl)))
