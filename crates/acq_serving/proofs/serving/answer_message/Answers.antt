use Rattle.std.proofs.Common.{[], sym, append-nil}
use Rattle.std.proofs.lemmas.Result.{err_from_is_err_and}
use Rattle.acq_core.specs.declared.output.Output.{Output}
use Rattle.acq_front.specs.Stops.{left_of}
use Rattle.acq_front.proofs.Turned.{take_stops, tells_counted, tells_unfit}
use Rattle.acq_serving.proofs.ReplySent.{was_sent}
use Rattle.acq_serving.proofs.serving.answer_message.Goals as goal

pub returns-in_err-said-clause-turns : goal.returns-in_err-said-clause-turns
returns-in_err-said-clause-turns g c = λ h o.
    let p = err_from_is_err_and c.from_residual.result c.from_residual.ensures.1 in
    let t = c.in_err-said.ensures.takes h o in (
      [],
      t.0,
      t.1,
      sym (append-nil _),
      t.2,
      t.3,
      t.4,
      rw (p.1, p.2) (take_stops _ _ _ _ c.in_err-said.field-0.0 t.5),
    )

pub returns-in_err-said-clause-store : goal.returns-in_err-said-clause-store
returns-in_err-said-clause-store g c =
    let p = err_from_is_err_and c.from_residual.result c.from_residual.ensures.1 in
    rw (p.1, p.2) (tells_counted Output (Unit {0}) c.in_err-said.field-0.0 _ _ _
    c.in_err-said.ensures.store)

pub returns-clause-turns : goal.returns-clause-turns
returns-clause-turns g c = λ h o.
    let t = c.in_ok-said.ensures.takes h o in
    let sent = was_sent (g.I.Issuer.may_say c.args.issuer.now) (g.B.Book.tables c.args.host.now)
    (left_of g.B.Book c.take_message.new.host) _
    c.in_ok-said.said _ _ c.send_reply.result t.5 (c.send_reply.ensures.sent t.5.fits) in (
      sent.0,
      t.0,
      t.1,
      sent.1,
      t.2,
      t.3,
      t.4,
      sent.2,
    )

pub returns-clause-store : goal.returns-clause-store
returns-clause-store g c =
    tells_unfit c.send_reply.result _ _ c.in_ok-said.ensures.store
    (λ unfit h o. unfit ((c.in_ok-said.ensures.takes h o).5.fits)) c.send_reply.ensures.store
