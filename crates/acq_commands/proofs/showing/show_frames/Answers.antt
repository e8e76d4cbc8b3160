use Rattle.std.proofs.Common.{◌++◌, ◌∷◌, [], List, ℕ, ap, ◌∙◌, append_assoc, arith}
use Rattle.std.proofs.lemmas.Result.{err_from_is_err_and}
use Rattle.acq_commands.specs.Show.{entry}
use Rattle.acq_commands.proofs.ShownFrames.{shows_more, frame_stops, frame_unread, frame_unwritten}
use Rattle.acq_commands.proofs.ShownFrames.{one_stops, one_unread}
use Rattle.acq_commands.proofs.showing.show_frames.Goals as goal

pub loop-rest-preserved : goal.loop-rest-preserved
loop-rest-preserved g c =
    let so = c.loop-rest.invariant.0 in
    let message = c.in_ok-message.message.now in
    let front = c.in_ok-message.ensures.found in
    let more = entry c.args.how message in (
      (
        so.0 ++ message ∷ [],
        so.1 ++ more,
        shows_more c.args.how c.args.frames.now so.1 c.loop-rest.rest.now message c.in_ok-message.after.now
            so.0 so.2
            front.whole front.fits,
        c.in_ok-show_one.ensures.sent ∙ ap (λ (x : List ℕ). x ++ more) so.3
            ∙ append_assoc (g.K.Sink.sent c.args.output.now) so.1 more,
      ),
      omega (arith, c.in_ok-show_one.ensures.writes, c.loop-rest.invariant.1),
    )

pub returns-in_err-message-clause-shown : goal.returns-in_err-message-clause-shown
returns-in_err-message-clause-shown g c =
    let so = c.loop-rest.invariant.0 in
    let p = err_from_is_err_and c.from_residual.result c.from_residual.ensures.1 in (
      so.1,
      so.3,
      rw (p.1, p.2)
          (frame_stops c.args.how c.args.frames.now so.1 c.loop-rest.rest.now so.0
          c.in_err-message.field-0.0 so.2 c.in_err-message.ensures.fault),
    )

pub returns-in_err-message-clause-reads : goal.returns-in_err-message-clause-reads
returns-in_err-message-clause-reads g c =
    let p = err_from_is_err_and c.from_residual.result c.from_residual.ensures.1 in
    rw (p.1, p.2)
    (frame_unread c.loop-rest.rest.now c.in_err-message.field-0.0 c.in_err-message.ensures.fault)

pub returns-in_err-message-clause-writes : goal.returns-in_err-message-clause-writes
returns-in_err-message-clause-writes g c =
    let p = err_from_is_err_and c.from_residual.result c.from_residual.ensures.1 in
    let none = frame_unwritten c.loop-rest.rest.now c.in_err-message.field-0.0
    c.in_err-message.ensures.fault in
    rw (p.1, p.2) (omega (arith, none, c.loop-rest.invariant.1))

pub returns-in_err-show_one-clause-shown : goal.returns-in_err-show_one-clause-shown
returns-in_err-show_one-clause-shown g c =
    let so = c.loop-rest.invariant.0 in
    let p = err_from_is_err_and c.from_residual-in_err-show_one.result
    c.from_residual-in_err-show_one.ensures.1 in
    let stopped = one_stops c.args.how c.args.frames.now so.1 c.loop-rest.rest.now
    c.in_ok-message.message.now c.in_ok-message.after.now (g.K.Sink.sent c.args.output.now)
    (g.K.Sink.sent c.loop-rest.output) (g.K.Sink.sent c.show_one.new.output) so.0
    c.in_err-show_one.field-0.0 so.2 c.in_ok-message.ensures.found so.3
    c.in_err-show_one.ensures.sent in
    (stopped.0, stopped.1, rw (p.1, p.2) stopped.2)

pub returns-in_err-show_one-clause-reads : goal.returns-in_err-show_one-clause-reads
returns-in_err-show_one-clause-reads g c =
    let p = err_from_is_err_and c.from_residual-in_err-show_one.result
    c.from_residual-in_err-show_one.ensures.1 in
    rw (p.1, p.2) (one_unread c.args.how _ _ _ c.in_err-show_one.field-0.0 c.in_err-show_one.ensures.sent)

pub returns-in_err-show_one-clause-writes : goal.returns-in_err-show_one-clause-writes
returns-in_err-show_one-clause-writes g c =
    let p = err_from_is_err_and c.from_residual-in_err-show_one.result
    c.from_residual-in_err-show_one.ensures.1 in
    rw (p.1, p.2) (omega (arith, c.in_err-show_one.ensures.writes, c.loop-rest.invariant.1))
