use Rattle.std.proofs.Common.{◌∙◌, inl, map, sym}
use Rattle.acq_program.proofs.Ends.{status_within}
use Rattle.acq_program.proofs.Quiet.{still_quiet}
use Rattle.acq_program.proofs.running.command.Goals as goal

pub returns-in-Ok-clause-status : goal.returns-in-Ok-clause-status
returns-in-Ok-clause-status g c =
    rw c.finish.ensures.status (status_within c.run-ended.result c.run-ended.ensures.status)

pub returns-in-Ok-clause-ran : goal.returns-in-Ok-clause-ran
returns-in-Ok-clause-ran g c = λ well.
    inl (
      c.in-Ok.action,
      c.in-Ok.ensures,
      (
        c.run-ended.result,
        g.F.Sink.sent c.run-ended.new.faults,
        c.run-ended.ensures.done,
        c.finish.ensures.quiet,
        c.finish.ensures.status,
      ),
    )

pub returns-in-Ok-clause-quiet : goal.returns-in-Ok-clause-quiet
returns-in-Ok-clause-quiet g c = λ well.
    still_quiet (map g.W.AsStr.text c.args.args.now) c.in-Ok.action c.run-ended.result
    (g.F.Sink.sent c.args.faults.now)
    (g.F.Sink.sent c.run-ended.new.faults) (g.F.Sink.sent c.finish.new.faults) c.in-Ok.ensures
    c.run-ended.ensures.told
    c.finish.ensures.quiet (sym c.finish.ensures.status ∙ well)
