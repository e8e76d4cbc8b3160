use Rattle.std.proofs.Common.{true≢false, sym}
use Rattle.sqlite.specs.Held.{state}
use Rattle.acq_sql_changes.specs.Refused.{IsNextPosting}
use Rattle.acq_sql_writes.specs.Refused.{AnyTables}
use Rattle.acq_sql.proofs.apply.ChangesFail.{fails_for, fails_for_memory, fails_from, looks_fail}
use Rattle.acq_sql.proofs.apply.ChangesLooked.{inside_for, inside_from, inside_looking}
use Rattle.acq_sql.proofs.apply.ChangesLooked.{inside_refuses}
use Rattle.acq_sql.proofs.apply.answers.answer.Goals as goal

pub returns-in-Some-clause-changes : goal.returns-in-Some-clause-changes
returns-in-Some-clause-changes g c =
    let found = c.in_ok-number-in-Some.ensures in
    rw c.in-Some.is
    (inside_from found.looks (λ clean t holds suits. (suits.0, found.answers clean t holds))
    c.answer_and_post.ensures.changes)

pub returns-clause-changes : goal.returns-clause-changes
returns-clause-changes g c = rw c.in-None.is (inside_for (λ t suits. tt) c.answer.ensures.changes)

pub returns-in_err-check_hold_end-clause-changes : goal.returns-in_err-check_hold_end-clause-changes
returns-in_err-check_hold_end-clause-changes g c =
    inside_refuses (state g.S.Store c.args.conn.now) _ c.from_residual.ensures.0

pub returns-in_err-text-clause-changes : goal.returns-in_err-text-clause-changes
returns-in_err-text-clause-changes g c =
    inside_refuses (state g.S.Store c.args.conn.now) _
    c.from_residual-in_err-text.ensures.0

pub returns-in_err-number-in-Some-clause-changes : goal.returns-in_err-number-in-Some-clause-changes
returns-in_err-number-in-Some-clause-changes g c =
    inside_looking c.in_err-number-in-Some.ensures.looks _
    c.from_residual-in_err-number-in-Some.ensures.0

pub returns-in-Some-clause-fails : goal.returns-in-Some-clause-fails
returns-in-Some-clause-fails g c short =
    let found = c.in_ok-number-in-Some.ensures in
    rw c.in-Some.is
    (fails_from c.answer_and_post.result
    (IsNextPosting c.in_ok-number-in-Some.number c.in-Some.posting) found.looks
    (λ clean t holds past. found.answers clean t holds) c.answer_and_post.ensures.changes
    c.answer_and_post.ensures.fails)

pub returns-clause-fails : goal.returns-clause-fails
returns-clause-fails g c short =
    rw c.in-None.is
    (fails_for (state g.S.Store c.args.conn.now) (state g.S.Store c.answer.new.conn) c.answer.result
    AnyTables (λ t past. tt) c.answer.ensures.fails)

pub returns-in_err-check_hold_end-clause-fails : goal.returns-in_err-check_hold_end-clause-fails
returns-in_err-check_hold_end-clause-fails g c short =
    absurd (true≢false (sym (c.in_err-check_hold_end.ensures.short.1 short)))

pub returns-in_err-text-clause-fails : goal.returns-in_err-text-clause-fails
returns-in_err-text-clause-fails g c short =
    fails_for_memory (state g.S.Store c.args.conn.now) (state g.S.Store c.args.conn.now)
    c.in_err-text.ensures.fails c.from_residual-in_err-text.result
    c.from_residual-in_err-text.ensures

pub returns-in_err-number-in-Some-clause-fails : goal.returns-in_err-number-in-Some-clause-fails
returns-in_err-number-in-Some-clause-fails g c short =
    looks_fail (state g.S.Store c.args.conn.now) (state g.S.Store c.number_of_posting.new.conn)
    (λ t. Unit {0})
    (λ clean t at fits. c.in_err-number-in-Some.ensures.fails clean t at fits.0)
    (λ left t holds. tt)
    c.from_residual-in_err-number-in-Some.result c.from_residual-in_err-number-in-Some.ensures
