use Rattle.std.proofs.Common.{List, ℕ, [], ◌++◌, ◌∙◌, sym, ap, append-nil, arith, Err}
use Rattle.std.proofs.lemmas.Result.{err_from_is_err_and}
use Rattle.acq_commands.proofs.FaultsTold.{all_taken, any_end}
use Rattle.acq_commands.proofs.FaultsTold.{input_reads, input_unread, input_unwritten}
use Rattle.acq_commands.proofs.ShownFrames.{input_unshown}
use Rattle.acq_commands.proofs.showing.show.Goals as goal

pub returns-in_err-bytes-clause-shown : goal.returns-in_err-bytes-clause-shown
returns-in_err-bytes-clause-shown g c =
    let p = err_from_is_err_and c.from_residual.result c.from_residual.ensures.1 in
    let more = c.in_err-bytes.ensures.grows in (
      more.0,
      [],
      more.1,
      sym (append-nil (g.K.Sink.sent c.args.output.now)),
      rw (p.1, p.2)
          (input_unshown c.args.how c.args.form c.in_err-bytes.field-0.0 more.0),
    )

pub returns-clause-shown : goal.returns-clause-shown
returns-clause-shown g c =
    let more = c.show_hex.ensures.shown in (
      c.as_slice-in-HexLines.result.now,
      more.0,
      c.in_ok-bytes.ensures.received
          ∙ ap (λ (bytes : List ℕ). g.S.Source.received c.args.input.now ++ bytes)
          (sym c.as_slice-in-HexLines.ensures.value),
      more.1,
      rw c.in-HexLines.is
          more.2,
    )

pub returns-in_err-bytes-clause-whole : goal.returns-in_err-bytes-clause-whole
returns-in_err-bytes-clause-whole g c =
    let p = err_from_is_err_and c.from_residual.result c.from_residual.ensures.1 in
    rw (p.1, p.2) (input_unread c.in_err-bytes.field-0.0 _)

pub returns-in_err-bytes-clause-reads : goal.returns-in_err-bytes-clause-reads
returns-in_err-bytes-clause-reads g c =
    let p = err_from_is_err_and c.from_residual.result c.from_residual.ensures.1 in
    rw (p.1, p.2) (input_reads c.in_err-bytes.field-0.0 _ _
    (λ is. c.in_err-bytes.ensures.read (ap Err is))
    (λ is. c.in_err-bytes.ensures.memory (ap Err is)))

pub returns-in_err-bytes-clause-writes : goal.returns-in_err-bytes-clause-writes
returns-in_err-bytes-clause-writes g c =
    let p = err_from_is_err_and c.from_residual.result c.from_residual.ensures.1 in
    rw (p.1, p.2) (input_unwritten c.in_err-bytes.field-0.0 _)

pub returns-clause-whole : goal.returns-clause-whole
returns-clause-whole g c =
    any_end c.show_hex.result _ (all_taken _ _ _ _ _ c.in_ok-bytes.ensures.known
    c.in_ok-bytes.ensures.end c.in_ok-bytes.ensures.received)

pub returns-in-Plain-clause-whole : goal.returns-in-Plain-clause-whole
returns-in-Plain-clause-whole g c =
    any_end c.show_plain.result _ (all_taken _ _ _ _ _ c.in_ok-bytes.ensures.known
    c.in_ok-bytes.ensures.end c.in_ok-bytes.ensures.received)

pub returns-clause-reads : goal.returns-clause-reads
returns-clause-reads g c = omega (arith, c.in_ok-bytes.ensures.well, c.show_hex.ensures.reads)

pub returns-clause-writes : goal.returns-clause-writes
returns-clause-writes g c = c.show_hex.ensures.writes

pub returns-in-Plain-clause-reads : goal.returns-in-Plain-clause-reads
returns-in-Plain-clause-reads g c =
    omega (arith, c.in_ok-bytes.ensures.well, c.show_plain.ensures.reads)

pub returns-in-Plain-clause-writes : goal.returns-in-Plain-clause-writes
returns-in-Plain-clause-writes g c = c.show_plain.ensures.writes

pub returns-in-Plain-clause-shown : goal.returns-in-Plain-clause-shown
returns-in-Plain-clause-shown g c =
    let more = c.show_plain.ensures.shown in (
      c.as_slice.result.now,
      more.0,
      c.in_ok-bytes.ensures.received
          ∙ ap (λ (bytes : List ℕ). g.S.Source.received c.args.input.now ++ bytes)
          (sym c.as_slice.ensures.value),
      more.1,
      rw c.in-Plain.is
          more.2,
    )
