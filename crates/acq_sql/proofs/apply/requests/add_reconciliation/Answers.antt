use Rattle.std.proofs.Common.{true≢false, sym}
use Rattle.sqlite.specs.Held.{state}
use Rattle.acq_sql_rows.specs.Rows.{reconciliation_row}
use Rattle.acq_sql_writes.specs.Refused.{HasNumberLeft}
use Rattle.acq_sql_changes.specs.Refused.{IsNextReconciliation}
use Rattle.acq_sql_changes.proofs.TakenTables.{number_left}
use Rattle.acq_sql.proofs.apply.ChangesFail.{fails_for_memory, fails_from, looks_fail}
use Rattle.acq_sql.proofs.apply.ChangesLooked.{inside_from, inside_looking, inside_refuses}
use Rattle.acq_sql.proofs.apply.requests.add_reconciliation.Goals as goal

pub returns-clause-changes : goal.returns-clause-changes
returns-clause-changes g c =
    let found = c.in_ok-number.ensures in
    inside_from found.looks
    (λ clean t holds suits. (suits.0.used, found.answers clean t holds suits.1))
    c.reconcile.ensures.changes

pub returns-in_err-check_hold_end-clause-changes : goal.returns-in_err-check_hold_end-clause-changes
returns-in_err-check_hold_end-clause-changes g c =
    inside_refuses (state g.S.Store c.args.conn.now) _ c.from_residual.ensures.0

pub returns-in_err-reply-clause-changes : goal.returns-in_err-reply-clause-changes
returns-in_err-reply-clause-changes g c =
    inside_refuses (state g.S.Store c.args.conn.now) _
    c.from_residual-in_err-reply.ensures.0

pub returns-in_err-number-clause-changes : goal.returns-in_err-number-clause-changes
returns-in_err-number-clause-changes g c =
    inside_looking c.in_err-number.ensures.looks _
    c.from_residual-in_err-number.ensures.0

pub returns-clause-fails : goal.returns-clause-fails
returns-clause-fails g c short =
    let found = c.in_ok-number.ensures in
    fails_from c.reconcile.result
    (IsNextReconciliation c.in_ok-number.number c.args.reconciliation.now) found.looks
    found.answers c.reconcile.ensures.changes c.reconcile.ensures.fails

pub returns-in_err-check_hold_end-clause-fails : goal.returns-in_err-check_hold_end-clause-fails
returns-in_err-check_hold_end-clause-fails g c short =
    absurd (true≢false (sym (c.in_err-check_hold_end.ensures.short.1 short)))

pub returns-in_err-reply-clause-fails : goal.returns-in_err-reply-clause-fails
returns-in_err-reply-clause-fails g c short =
    fails_for_memory (state g.S.Store c.args.conn.now) (state g.S.Store c.args.conn.now)
    c.in_err-reply.ensures.fails c.from_residual-in_err-reply.result
    c.from_residual-in_err-reply.ensures

pub returns-in_err-number-clause-fails : goal.returns-in_err-number-clause-fails
returns-in_err-number-clause-fails g c short =
    looks_fail (state g.S.Store c.args.conn.now)
    (state g.S.Store c.number_of_reconciliation.new.conn) (λ t. HasNumberLeft t.reconciliations)
    c.in_err-number.ensures.fails
    (λ left t holds.
    number_left reconciliation_row _ t.reconciliations holds.rows.reconciliations
    left.reconciliations)
    c.from_residual-in_err-number.result c.from_residual-in_err-number.ensures
