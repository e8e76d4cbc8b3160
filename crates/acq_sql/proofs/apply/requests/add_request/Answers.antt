use Rattle.std.proofs.Common.{true≢false, sym}
use Rattle.sqlite.specs.Held.{state}
use Rattle.acq_sql_writes.specs.Refused.{AnyTables}
use Rattle.acq_sql.proofs.apply.ChangesFail.{fails_for, fails_for_memory, still_apart}
use Rattle.acq_sql.proofs.apply.ChangesLooked.{inside_for, inside_refuses}
use Rattle.acq_sql.proofs.apply.requests.add_request.Goals as goal

pub returns-clause-changes : goal.returns-clause-changes
returns-clause-changes g c = inside_for (λ t suits. suits.0.used) c.record_request.ensures.changes

pub returns-in_err-check_hold_end-clause-changes : goal.returns-in_err-check_hold_end-clause-changes
returns-in_err-check_hold_end-clause-changes g c =
    inside_refuses (state g.S.Store c.args.conn.now) _ c.from_residual.ensures.0

pub returns-in_err-reply-clause-changes : goal.returns-in_err-reply-clause-changes
returns-in_err-reply-clause-changes g c =
    inside_refuses (state g.S.Store c.args.conn.now) _
    c.from_residual-in_err-reply.ensures.0

pub returns-clause-fails : goal.returns-clause-fails
returns-clause-fails g c short =
    fails_for (state g.S.Store c.args.conn.now)
    (state g.S.Store c.record_request.new.conn) c.record_request.result AnyTables (λ t past. tt)
    c.record_request.ensures.fails

pub returns-in_err-check_hold_end-clause-fails : goal.returns-in_err-check_hold_end-clause-fails
returns-in_err-check_hold_end-clause-fails g c short =
    absurd (true≢false (sym (c.in_err-check_hold_end.ensures.short.1 short)))

pub returns-in_err-reply-clause-fails : goal.returns-in_err-reply-clause-fails
returns-in_err-reply-clause-fails g c short =
    fails_for_memory (state g.S.Store c.args.conn.now) (state g.S.Store c.args.conn.now)
    c.in_err-reply.ensures.fails c.from_residual-in_err-reply.result
    c.from_residual-in_err-reply.ensures

pub returns-in_err-check_hold_end-clause-apart : goal.returns-in_err-check_hold_end-clause-apart
returns-in_err-check_hold_end-clause-apart g c =
    still_apart (state g.S.Store c.args.conn.now) c.from_residual.result

pub returns-in_err-reply-clause-apart : goal.returns-in_err-reply-clause-apart
returns-in_err-reply-clause-apart g c =
    still_apart (state g.S.Store c.args.conn.now) c.from_residual-in_err-reply.result
