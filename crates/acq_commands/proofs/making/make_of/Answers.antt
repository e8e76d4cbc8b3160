use Rattle.std.proofs.Common.{[], sym, append-nil}
use Rattle.std.proofs.lemmas.Result.{err_from_is_err_and}
use Rattle.acq_commands.proofs.MadeMessages.{make_unread, make_unwritten, text_unmade}
use Rattle.acq_commands.proofs.making.make_of.Goals as goal

pub returns-in_err-messages-clause-made : goal.returns-in_err-messages-clause-made
returns-in_err-messages-clause-made g c =
    let p = err_from_is_err_and c.from_residual.result c.from_residual.ensures.1 in (
      [],
      sym (append-nil (g.K.Sink.sent c.args.output.now)),
      rw (p.1, p.2)
          (text_unmade c.args.said c.args.form.now c.args.text.now c.in_err-messages.field-0.0
          c.in_err-messages.ensures.fault),
    )

pub returns-in_err-messages-clause-reads : goal.returns-in_err-messages-clause-reads
returns-in_err-messages-clause-reads g c =
    let p = err_from_is_err_and c.from_residual.result c.from_residual.ensures.1 in
    rw (p.1, p.2) (make_unread c.in_err-messages.field-0.0)

pub returns-in_err-messages-clause-writes : goal.returns-in_err-messages-clause-writes
returns-in_err-messages-clause-writes g c =
    let p = err_from_is_err_and c.from_residual.result c.from_residual.ensures.1 in
    rw (p.1, p.2) (make_unwritten c.in_err-messages.field-0.0 _)
