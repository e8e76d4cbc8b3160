use Rattle.std.proofs.Common.{◌++◌, ◌∙◌, List, ap, inl, inr, refl, subst}
use Rattle.std.specs.List.{flat_map}
use Rattle.std.proofs.lemmas.Result.{err_from_is_err_and}
use Rattle.acq_core.specs.declared.output.Output.{Output}
use Rattle.acq_out.specs.OutputLines.{line_of}
use Rattle.acq_commands.specs.Replay.{StopsLines}
use Rattle.acq_commands.proofs.FaultsTold.{book_stops, book_stored, book_unwritten}
use Rattle.acq_commands.proofs.FaultsTold.{events_unstored, line_writes, lines_stop}
use Rattle.acq_commands.proofs.replaying.take_next.Goals as goal

pub returns-in_err-said-clause-made : goal.returns-in_err-said-clause-made
returns-in_err-said-clause-made g c =
    let p = err_from_is_err_and c.from_residual.result c.from_residual.ensures.1 in
    rw p.1 tt

pub returns-in_err-said-clause-sent : goal.returns-in_err-said-clause-sent
returns-in_err-said-clause-sent g c = λ h o.
    let p = err_from_is_err_and c.from_residual.result c.from_residual.ensures.1 in
    rw p.1 tt

pub returns-in_err-said-clause-fault : goal.returns-in_err-said-clause-fault
returns-in_err-said-clause-fault g c =
    let p = err_from_is_err_and c.from_residual.result c.from_residual.ensures.1 in
    rw (p.1, p.2) (inl (c.in_err-said.field-0.0, refl, c.in_err-said.ensures.tables, refl))

pub returns-in_err-said-clause-which : goal.returns-in_err-said-clause-which
returns-in_err-said-clause-which g c =
    let p = err_from_is_err_and c.from_residual.result c.from_residual.ensures.1 in
    rw (p.1, p.2) (book_stops c.in_err-said.field-0.0)

pub returns-in_err-said-clause-writes : goal.returns-in_err-said-clause-writes
returns-in_err-said-clause-writes g c =
    let p = err_from_is_err_and c.from_residual.result c.from_residual.ensures.1 in
    rw (p.1, p.2) (book_unwritten c.in_err-said.field-0.0 _)

pub returns-in_err-said-clause-store : goal.returns-in_err-said-clause-store
returns-in_err-said-clause-store g c =
    let p = err_from_is_err_and c.from_residual.result c.from_residual.ensures.1 in
    rw (p.1, p.2) (book_stored c.in_err-said.field-0.0 _ _ c.in_err-said.ensures.store)

pub returns-in-Err-clause-fault : goal.returns-in-Err-clause-fault
returns-in-Err-clause-fault g c =
    let stopped = (rw c.in-Err.is at c.write_lines-written.ensures.stopped) in
    rw c.from.ensures (inr (
      c.in-Err.fault,
      refl,
      c.in_ok-said.ensures.tables,
      λ h o. subst
          (λ (s : List Output). StopsLines s (g.K.Sink.sent c.args.output.now)
          (g.K.Sink.sent c.write_lines-written.new.output) c.in-Err.fault)
          (c.as_slice.ensures.value ∙ c.in_ok-said.ensures.outputs h o) stopped,
    ))

pub returns-in-Err-clause-which : goal.returns-in-Err-clause-which
returns-in-Err-clause-which g c =
    let stopped = (rw c.in-Err.is at c.write_lines-written.ensures.stopped) in
    rw c.from.ensures (lines_stop _ _ _ c.in-Err.fault stopped)

pub returns-in-Err-clause-writes : goal.returns-in-Err-clause-writes
returns-in-Err-clause-writes g c =
    let counted = (rw c.in-Err.is at c.write_lines-written.ensures.writes) in
    rw c.from.ensures (line_writes c.in-Err.fault _ _ counted)

pub returns-in-Err-clause-store : goal.returns-in-Err-clause-store
returns-in-Err-clause-store g c =
    rw c.from.ensures (events_unstored c.in-Err.fault _ _ c.in_ok-said.ensures.store)

pub returns-in-Ok-clause-store : goal.returns-in-Ok-clause-store
returns-in-Ok-clause-store g c = c.in_ok-said.ensures.store

pub returns-in-Ok-clause-sent : goal.returns-in-Ok-clause-sent
returns-in-Ok-clause-sent g c = λ h o.
    let sent = (rw c.in-Ok.is at c.write_lines-written.ensures.sent) in
    sent ∙ ap (λ os. g.K.Sink.sent c.args.output.now ++ flat_map line_of os)
    (c.as_slice.ensures.value ∙ c.in_ok-said.ensures.outputs h o)
