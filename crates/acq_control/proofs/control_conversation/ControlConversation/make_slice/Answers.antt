use Rattle.std.proofs.Common.{false, None}
use Rattle.std.proofs.lemmas.Result.{err_from_is_err_and}
use Rattle.acq_control.proofs.Doing.{some_done}
use Rattle.acq_control.proofs.control_conversation.ControlConversation.make_slice.Goals as goal

pub returns-in_err-said-in-Some-clause-refused : goal.returns-in_err-said-in-Some-clause-refused
returns-in_err-said-in-Some-clause-refused g c = λ h o.
    let p = err_from_is_err_and c.from_residual.result c.from_residual.ensures.1 in
    rw p.1
    (some_done g.B.Book c.args.host.now c.go_on.new.host h o g.met.B.Book.settled
    g.met.B.Book.stored None (false, c.in_err-said-in-Some.ensures.looks))
