use Rattle.std.proofs.Common.{◌++◌, ◌∙◌, List, ℕ, [], ap, sym, take, append-nil}
use Rattle.std.proofs.lemmas.Result.{err_from_is_err_and}
use Rattle.acq_control.proofs.Told.{answer_stopped, line_broken, turn_of, turn_taken}
use Rattle.acq_control.proofs.telling.ask.Goals as goal

pub returns-in-Err-clause-turn : goal.returns-in-Err-clause-turn
returns-in-Err-clause-turn g c =
    let n = c.in-Err.bytes in
    let given = c.as_slice.ensures.value in (
      turn_of (take n c.args.line.items) [] [] [],
      c.in-Err.ensures.err
          ∙ ap (λ (l : List ℕ). g.L.Sink.sent c.args.lines.now ++ take n l) given,
      sym (append-nil _),
      sym (append-nil _),
      sym (append-nil _),
      (λ it is. line_broken c.args.line.items it c.args.held.now.items n is
          (rw given at c.in-Err.ensures.short)),
    )

pub returns-in_err-answer-clause-turn : goal.returns-in_err-answer-clause-turn
returns-in_err-answer-clause-turn g c =
    let p = err_from_is_err_and c.from_residual.result c.from_residual.ensures.1 in
    let came = c.in_err-answer.ensures.comes in (
      turn_of c.args.line.items came.0 [] [],
      c.in-Ok.ensures.ok
          ∙ ap (λ (l : List ℕ). g.L.Sink.sent c.args.lines.now ++ l) c.as_slice.ensures.value,
      came.1,
      sym (append-nil _),
      sym (append-nil _),
      (λ it is. rw (p.1, p.2)
          (answer_stopped c.args.line.items it c.args.held.now.items came.0
          c.in_err-answer.field-0.0 is came.2)),
    )

pub returns-clause-turn : goal.returns-clause-turn
returns-clause-turn g c =
    let came = c.in_ok-answer.ensures.comes in
    let said = came.2 in
    let written = c.write_answer.ensures.writes in (
      turn_of c.args.line.items came.0 written.0 written.1,
      c.in-Ok.ensures.ok
          ∙ ap (λ (l : List ℕ). g.L.Sink.sent c.args.lines.now ++ l) c.as_slice.ensures.value,
      came.1,
      written.2,
      written.3,
      (λ it is. turn_taken c.args.line.items it c.args.held.now.items came.0
          c.read.new.held.items said.0 c.in_ok-answer.answer.kind c.as_slice-2.result.now
          written.0 written.1 is said.1 said.2 (c.as_slice-2.ensures.value ∙ said.3)
          c.write_answer.result written.4),
    )
