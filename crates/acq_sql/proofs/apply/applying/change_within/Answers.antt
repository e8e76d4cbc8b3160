use Rattle.sqlite.specs.Held.{state}
use Rattle.acq_sql_writes.specs.Refused.{AnyTables}
use Rattle.acq_sql.proofs.apply.ChangesFail.{fails_for}
use Rattle.acq_sql.proofs.apply.ChangesLooked.{inside_for}
use Rattle.acq_sql.proofs.apply.applying.change_within.Goals as goal

pub returns-in-AddMerchant-clause-changes : goal.returns-in-AddMerchant-clause-changes
returns-in-AddMerchant-clause-changes g c =
    rw c.in-AddMerchant.is (inside_for (λ t suits. tt) c.enrol.ensures.changes)

pub returns-in-AddTerminal-clause-changes : goal.returns-in-AddTerminal-clause-changes
returns-in-AddTerminal-clause-changes g c =
    rw c.in-AddTerminal.is (inside_for (λ t suits. tt) c.enrol_terminal.ensures.changes)

pub returns-in-AddRange-clause-changes : goal.returns-in-AddRange-clause-changes
returns-in-AddRange-clause-changes g c =
    rw c.in-AddRange.is (inside_for (λ t suits. tt) c.add_range.ensures.changes)

pub returns-in-DropRange-clause-changes : goal.returns-in-DropRange-clause-changes
returns-in-DropRange-clause-changes g c =
    rw c.in-DropRange.is (inside_for (λ t suits. tt) c.drop_range.ensures.changes)

pub returns-in-SetDay-clause-changes : goal.returns-in-SetDay-clause-changes
returns-in-SetDay-clause-changes g c =
    rw c.in-SetDay.is (inside_for (λ t suits. tt) c.cut_over.ensures.changes)

pub returns-in-Answered-clause-changes : goal.returns-in-Answered-clause-changes
returns-in-Answered-clause-changes g c = rw c.in-Answered.is c.answer.ensures.changes

pub returns-in-Follow-clause-changes : goal.returns-in-Follow-clause-changes
returns-in-Follow-clause-changes g c = rw c.in-Follow.is c.follow.ensures.changes

pub returns-in-AddMerchant-clause-fails : goal.returns-in-AddMerchant-clause-fails
returns-in-AddMerchant-clause-fails g c short =
    rw c.in-AddMerchant.is
    (fails_for (state g.S.Store c.args.conn.now) (state g.S.Store c.enrol.new.conn)
    c.enrol.result AnyTables (λ t past. tt) c.enrol.ensures.fails)

pub returns-in-AddTerminal-clause-fails : goal.returns-in-AddTerminal-clause-fails
returns-in-AddTerminal-clause-fails g c short =
    rw c.in-AddTerminal.is
    (fails_for (state g.S.Store c.args.conn.now) (state g.S.Store c.enrol_terminal.new.conn)
    c.enrol_terminal.result AnyTables (λ t past. tt) c.enrol_terminal.ensures.fails)

pub returns-in-AddRange-clause-fails : goal.returns-in-AddRange-clause-fails
returns-in-AddRange-clause-fails g c short =
    rw c.in-AddRange.is
    (fails_for (state g.S.Store c.args.conn.now) (state g.S.Store c.add_range.new.conn)
    c.add_range.result AnyTables (λ t past. tt) c.add_range.ensures.fails)

pub returns-in-DropRange-clause-fails : goal.returns-in-DropRange-clause-fails
returns-in-DropRange-clause-fails g c short =
    rw c.in-DropRange.is
    (fails_for (state g.S.Store c.args.conn.now) (state g.S.Store c.drop_range.new.conn)
    c.drop_range.result AnyTables (λ t past. tt) c.drop_range.ensures.fails)

pub returns-in-SetDay-clause-fails : goal.returns-in-SetDay-clause-fails
returns-in-SetDay-clause-fails g c short =
    rw c.in-SetDay.is
    (fails_for (state g.S.Store c.args.conn.now) (state g.S.Store c.cut_over.new.conn)
    c.cut_over.result AnyTables (λ t past. tt) c.cut_over.ensures.fails)

pub returns-in-AddRequest-clause-fails : goal.returns-in-AddRequest-clause-fails
returns-in-AddRequest-clause-fails g c short =
    rw c.in-AddRequest.is (c.add_request.ensures.fails (rw c.in-AddRequest.is at short))

pub returns-in-Answered-clause-fails : goal.returns-in-Answered-clause-fails
returns-in-Answered-clause-fails g c short =
    rw c.in-Answered.is (c.answer.ensures.fails (rw c.in-Answered.is at short))

pub returns-in-Follow-clause-fails : goal.returns-in-Follow-clause-fails
returns-in-Follow-clause-fails g c short =
    rw c.in-Follow.is (c.follow.ensures.fails (rw c.in-Follow.is at short))

pub returns-in-Reconciled-clause-fails : goal.returns-in-Reconciled-clause-fails
returns-in-Reconciled-clause-fails g c short =
    rw c.in-Reconciled.is (c.add_reconciliation.ensures.fails (rw c.in-Reconciled.is at short))
