use Rattle.std.proofs.Common.{List, ℕ, [], ◌++◌, ◌∙◌, sym, ap, append-nil, arith, Err}
use Rattle.std.proofs.lemmas.Result.{err_from_is_err_and}
use Rattle.acq_commands.proofs.FaultsTold.{all_taken, any_end}
use Rattle.acq_commands.proofs.FaultsTold.{input_reads, input_unread, input_unwritten}
use Rattle.acq_commands.proofs.MadeMessages.{input_unmade}
use Rattle.acq_commands.proofs.making.make.Goals as goal

pub returns-in_err-text-clause-made : goal.returns-in_err-text-clause-made
returns-in_err-text-clause-made g c =
    let p = err_from_is_err_and c.from_residual.result c.from_residual.ensures.1 in
    let more = c.in_err-text.ensures.grows in (
      more.0,
      [],
      more.1,
      sym (append-nil (g.K.Sink.sent c.args.output.now)),
      rw (p.1, p.2) (input_unmade c.args.said c.args.form.now c.in_err-text.field-0.0 more.0),
    )

pub returns-in_err-text-clause-whole : goal.returns-in_err-text-clause-whole
returns-in_err-text-clause-whole g c =
    let p = err_from_is_err_and c.from_residual.result c.from_residual.ensures.1 in
    rw (p.1, p.2) (input_unread c.in_err-text.field-0.0 _)

pub returns-in_err-text-clause-reads : goal.returns-in_err-text-clause-reads
returns-in_err-text-clause-reads g c =
    let p = err_from_is_err_and c.from_residual.result c.from_residual.ensures.1 in
    rw (p.1, p.2) (input_reads c.in_err-text.field-0.0 _ _
    (λ is. c.in_err-text.ensures.read (ap Err is))
    (λ is. c.in_err-text.ensures.memory (ap Err is)))

pub returns-in_err-text-clause-writes : goal.returns-in_err-text-clause-writes
returns-in_err-text-clause-writes g c =
    let p = err_from_is_err_and c.from_residual.result c.from_residual.ensures.1 in
    rw (p.1, p.2) (input_unwritten c.in_err-text.field-0.0 _)

pub returns-clause-made : goal.returns-clause-made
returns-clause-made g c =
    let more = c.make_of.ensures.made in (
      c.as_slice.result.now,
      more.0,
      c.in_ok-text.ensures.received
          ∙ ap (λ (bytes : List ℕ). g.S.Source.received c.args.input.now ++ bytes)
          (sym c.as_slice.ensures.value),
      more.1,
      more.2,
    )

pub returns-clause-whole : goal.returns-clause-whole
returns-clause-whole g c =
    any_end c.make_of.result _ (all_taken _ _ _ _ _ c.in_ok-text.ensures.known
    c.in_ok-text.ensures.end c.in_ok-text.ensures.received)

pub returns-clause-reads : goal.returns-clause-reads
returns-clause-reads g c = omega (arith, c.in_ok-text.ensures.well, c.make_of.ensures.reads)

pub returns-clause-writes : goal.returns-clause-writes
returns-clause-writes g c = c.make_of.ensures.writes
