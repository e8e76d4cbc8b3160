use Rattle.std.proofs.Common.{List, ℕ, [], sym, append-nil, subst, ◌∙◌}
use Rattle.std.proofs.lemmas.Result.{err_from_is_err_and}
use Rattle.acq_commands.specs.Show.{Shows}
use Rattle.acq_commands.proofs.FaultsTold.{hex_unread, hex_unwritten}
use Rattle.acq_commands.proofs.ShownFrames.{hex_shown, hex_unshown}
use Rattle.acq_commands.proofs.showing.show_hex.Goals as goal

pub returns-in_err-frames-clause-shown : goal.returns-in_err-frames-clause-shown
returns-in_err-frames-clause-shown g c =
    let p = err_from_is_err_and c.from_residual.result c.from_residual.ensures.1 in (
      [],
      sym (append-nil (g.K.Sink.sent c.args.output.now)),
      rw (p.1, p.2)
          (hex_unshown c.args.how c.args.lines.now c.in_err-frames.field-0.0 c.in_err-frames.ensures.fault),
    )

pub returns-in_err-frames-clause-reads : goal.returns-in_err-frames-clause-reads
returns-in_err-frames-clause-reads g c =
    let p = err_from_is_err_and c.from_residual.result c.from_residual.ensures.1 in
    rw (p.1, p.2) (hex_unread c.in_err-frames.field-0.0)

pub returns-in_err-frames-clause-writes : goal.returns-in_err-frames-clause-writes
returns-in_err-frames-clause-writes g c =
    let p = err_from_is_err_and c.from_residual.result c.from_residual.ensures.1 in
    rw (p.1, p.2) (hex_unwritten c.in_err-frames.field-0.0 _)

pub returns-clause-shown : goal.returns-clause-shown
returns-clause-shown g c =
    let so = c.show_frames.ensures.shown in
    let held = c.in_ok-frames.ensures.frames in (
      so.0,
      so.1,
      hex_shown c.args.how c.args.lines.now so.0 held.0 c.show_frames.result held.1
          (subst (λ (frames : List ℕ). Shows c.args.how frames so.0 c.show_frames.result)
          (c.as_slice.ensures.value ∙ held.2.whole) so.2),
    )
