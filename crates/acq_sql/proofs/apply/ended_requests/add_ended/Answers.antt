use Rattle.acq_sql.proofs.apply.ChangesLooked.{inside_for, inside_from, inside_looking}
use Rattle.acq_sql.proofs.apply.ChangesLooked.{inside_refuses}
use Rattle.acq_sql.proofs.apply.ended_requests.add_ended.Goals as goal
use Rattle.sqlite.specs.Held.{state}

pub returns-in-Some : goal.returns-in-Some
returns-in-Some g c =
    let found = c.in_ok-number-in-Some.ensures in
    rw c.in-Some.is
    (inside_from found.looks
    (λ clean t holds suits. (
      suits.0.used,
      (suits.1, found.answers clean t holds),
      suits.2,
    ))
    c.record_and_post.ensures.changes)

pub returns : goal.returns
returns g c =
    rw c.in-None.is (inside_for (λ t suits. suits.0.used) c.record_request.ensures.changes)

pub returns-in_err-check_hold_end : goal.returns-in_err-check_hold_end
returns-in_err-check_hold_end g c =
    inside_refuses (state g.S.Store c.args.conn.now) _ c.from_residual.ensures.0

pub returns-in_err-reply : goal.returns-in_err-reply
returns-in_err-reply g c =
    inside_refuses (state g.S.Store c.args.conn.now) _ c.from_residual-in_err-reply.ensures.0

pub returns-in_err-number-in-Some : goal.returns-in_err-number-in-Some
returns-in_err-number-in-Some g c =
    inside_looking c.in_err-number-in-Some.ensures.looks _
    c.from_residual-in_err-number-in-Some.ensures.0
