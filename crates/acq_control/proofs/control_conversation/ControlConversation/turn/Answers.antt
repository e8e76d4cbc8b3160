use Rattle.std.proofs.Common.{arith}
use Rattle.std.proofs.lemmas.Result.{err_from_is_err_and}
use Rattle.acq_control.proofs.Doing.{none_refused, some_done}
use Rattle.acq_control.proofs.Turning.{line_taken, taken_asks}
use Rattle.acq_control.proofs.control_conversation.ControlConversation.turn.Goals as goal

pub returns-in_err-line-clause-steps : goal.returns-in_err-line-clause-steps
returns-in_err-line-clause-steps g c = λ h o.
    let p = err_from_is_err_and c.from_residual.result c.from_residual.ensures.1 in
    rw p.1 (none_refused g.B.Book c.args.host.now o g.met.B.Book.settled g.met.B.Book.stored)

pub returns-in_default-checked_add-clause-steps : goal.returns-in_default-checked_add-clause-steps
returns-in_default-checked_add-clause-steps g c = λ h o.
    none_refused g.B.Book c.args.host.now o g.met.B.Book.settled g.met.B.Book.stored

pub returns-in_err-asked-clause-steps : goal.returns-in_err-asked-clause-steps
returns-in_err-asked-clause-steps g c = λ h o.
    let p = err_from_is_err_and c.from_residual-in_err-asked.result
    c.from_residual-in_err-asked.ensures.1 in
    rw p.1 (none_refused g.B.Book c.args.host.now o g.met.B.Book.settled g.met.B.Book.stored)

pub returns-in_err-said-clause-steps : goal.returns-in_err-said-clause-steps
returns-in_err-said-clause-steps g c = λ h o.
    let p = err_from_is_err_and c.from_residual-in_err-said.result
    c.from_residual-in_err-said.ensures.1 in
    rw p.1
    (some_done g.B.Book c.args.host.now c.answer_to.new.host h o g.met.B.Book.settled
    g.met.B.Book.stored c.in_ok-asked.asked c.in_err-said.ensures.refused)

pub returns-clause-steps : goal.returns-clause-steps
returns-clause-steps g c = λ h o.
    let some = rw c.in-Some.is at c.in_ok-line.ensures.some in
    let takes = taken_asks _ _ c.in-Some.line c.now.result c.in_ok-asked.asked some
    c.in_ok-asked.ensures.asks in
    let same = c.prepare.ensures.same c.if-prepare.false in
    rw (← same)
    (line_taken (g.C.Clock.may_give c.args.clock.now) c.args.serving g.B.Book c.args.host.now
    c.answer_to.new.host h o g.met.B.Book.settled g.met.B.Book.stored _ _
    c.now.result c.in_ok-asked.asked c.wish_of-wish.result takes c.now.ensures.given
    c.in_ok-asked.ensures.shows c.in_ok-said.ensures.does
    (λ may. (c.in_ok-said.ensures.answers h o may).whole)
    (λ may. (c.in_ok-said.ensures.answers h o may).unmade)
    (omega (arith, c.in-Some-checked_add.ensures)) c.wish_of-wish.ensures)
