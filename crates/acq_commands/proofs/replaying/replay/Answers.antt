use Rattle.std.proofs.Common.{inr, refl, ap, Err}
use Rattle.std.proofs.lemmas.Result.{err_from_is_err_and}
use Rattle.acq_front.specs.Stops.{left_of}
use Rattle.acq_commands.proofs.FaultsTold.{events_reads, events_unstored, events_unwritten}
use Rattle.acq_commands.proofs.FaultsTold.{any_end, events_whole, unreplayed}
use Rattle.acq_commands.proofs.replaying.replay.Goals as goal

pub returns-in_err-events-clause-replays : goal.returns-in_err-events-clause-replays
returns-in_err-events-clause-replays g c = λ h o.
    let p = err_from_is_err_and c.from_residual.result c.from_residual.ensures.1 in
    let came = c.in_err-events.ensures.read in (
      came.0,
      came.1,
      rw (p.1, p.2)
          (unreplayed
          (record {
            left = left_of g.B.Book;
            group = c.args.group;
            old = c.args.host.now;
            new = c.args.host.now;
          })
          came.0 refl
          (record {
            before = g.K.Sink.sent c.args.output.now;
            after = g.K.Sink.sent c.args.output.now;
          })
          c.in_err-events.field-0.0 came.2 refl),
    )

pub returns-in_err-events-clause-whole : goal.returns-in_err-events-clause-whole
returns-in_err-events-clause-whole g c =
    let p = err_from_is_err_and c.from_residual.result c.from_residual.ensures.1 in
    let came = c.in_err-events.ensures.read in
    rw (p.1, p.2) (events_whole came.0 c.in_err-events.field-0.0 _ came.2
    (λ n is. c.in_err-events.ensures.whole_at_bad_line n (ap Err is)))

pub returns-in_err-events-clause-reads_first : goal.returns-in_err-events-clause-reads_first
returns-in_err-events-clause-reads_first g c = inr (refl, refl)

pub returns-in_err-events-clause-reads : goal.returns-in_err-events-clause-reads
returns-in_err-events-clause-reads g c =
    let p = err_from_is_err_and c.from_residual.result c.from_residual.ensures.1 in
    rw (p.1, p.2) (events_reads c.in_err-events.field-0.0 _ _ c.in_err-events.ensures.failures)

pub returns-in_err-events-clause-writes : goal.returns-in_err-events-clause-writes
returns-in_err-events-clause-writes g c =
    let p = err_from_is_err_and c.from_residual.result c.from_residual.ensures.1 in
    let came = c.in_err-events.ensures.read in
    rw (p.1, p.2) (events_unwritten came.0 c.in_err-events.field-0.0 _ came.2)

pub returns-in_err-events-clause-store : goal.returns-in_err-events-clause-store
returns-in_err-events-clause-store g c =
    let p = err_from_is_err_and c.from_residual.result c.from_residual.ensures.1 in
    rw (p.1, p.2) (events_unstored c.in_err-events.field-0.0 _ _ refl)

pub returns-clause-whole : goal.returns-clause-whole
returns-clause-whole g c = any_end c.take_all.result _ c.in_ok-events.ensures.whole
