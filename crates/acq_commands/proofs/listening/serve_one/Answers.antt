use Rattle.std.proofs.Common.{refl}
use Rattle.acq_commands.proofs.FaultsTold.{going_tells}
use Rattle.acq_commands.proofs.listening.serve_one.Goals as goal

pub returns-clause-served : goal.returns-clause-served
returns-clause-served g c = λ h o.
    let one = c.serve_next-ended.ensures in
    let s = one.served h o in (
      record { connection = s.0; ended = c.serve_next-ended.result },
      (s.4, s.6),
      rw (s.1, s.2, one.reads, one.writes) refl,
      c.end_connection.ensures.which,
    )

pub returns-clause-store : goal.returns-clause-store
returns-clause-store g c =
    rw c.end_connection.ensures.which
    (going_tells c.serve_next-ended.result _ _ _ _ (λ p. p.1) c.serve_next-ended.ensures.store)
