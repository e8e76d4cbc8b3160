use Rattle.std.proofs.Common.{◌∙◌, refl, sym, ap, Ok, Err, arith}
use Rattle.std.proofs.lemmas.Result.{err_from_is_err_and}
use Rattle.acq_front.specs.Stops.{left_of}
use Rattle.acq_commands.proofs.FaultsTold.{book_unwritten, events_reads, events_unstored}
use Rattle.acq_commands.proofs.FaultsTold.{events_unwritten, events_whole}
use Rattle.acq_commands.proofs.FaultsTold.{any_end, book_stored, book_unread, some_taken, untaken}
use Rattle.acq_commands.proofs.taking_events.take_events.Goals as goal

pub returns-in_err-events-clause-takes : goal.returns-in_err-events-clause-takes
returns-in_err-events-clause-takes g c = λ h o.
    let p = err_from_is_err_and c.from_residual.result c.from_residual.ensures.1 in
    let came = c.in_err-events.ensures.read in (
      came.0,
      came.1,
      rw (p.1, p.2)
          (untaken
          (record {
            left = left_of g.B.Book;
            group = c.args.group;
            old = c.args.host.now;
            new = c.args.host.now;
          })
          came.0 refl c.in_err-events.field-0.0 came.2),
    )

pub returns-in_err-events-clause-whole : goal.returns-in_err-events-clause-whole
returns-in_err-events-clause-whole g c =
    let p = err_from_is_err_and c.from_residual.result c.from_residual.ensures.1 in
    let came = c.in_err-events.ensures.read in
    rw (p.1, p.2) (events_whole came.0 c.in_err-events.field-0.0 _ came.2
    (λ n is. c.in_err-events.ensures.whole_at_bad_line n (ap Err is)))

pub returns-in_err-events-clause-reads : goal.returns-in_err-events-clause-reads
returns-in_err-events-clause-reads g c =
    let p = err_from_is_err_and c.from_residual.result c.from_residual.ensures.1 in
    rw (p.1, p.2) (events_reads c.in_err-events.field-0.0 _ _ c.in_err-events.ensures.failures)

pub returns-in_err-events-clause-store : goal.returns-in_err-events-clause-store
returns-in_err-events-clause-store g c =
    let p = err_from_is_err_and c.from_residual.result c.from_residual.ensures.1 in
    rw (p.1, p.2) (events_unstored c.in_err-events.field-0.0 _ _ refl)

pub returns-in-Ok-clause-takes : goal.returns-in-Ok-clause-takes
returns-in-Ok-clause-takes g c = λ h o.
    let came = c.in_ok-events.ensures.read in
    let led = (rw c.in-Ok.is at c.take_each.ensures.taken) in
    let stop = (rw c.in-Ok.is at c.take_each.ensures.stop) in (
      came.0,
      came.1,
      record {
        events = c.as_slice.result.now;
        spelled = came.2 ∙ ap Ok (sym c.as_slice.ensures.value);
        leads = led h o;
        stop = stop h o;
      },
    )

pub returns-clause-takes : goal.returns-clause-takes
returns-clause-takes g c = λ h o.
    let came = c.in_ok-events.ensures.read in
    let first = (rw c.in-Err.is at c.take_each.ensures.stopped) in (
      came.0,
      came.1,
      rw c.from.ensures
          (some_taken
          (record {
            left = left_of g.B.Book;
            group = c.args.group;
            old = c.args.host.now;
            new = c.take_each.new.host;
          })
          came.0 c.in-Err.fault
          (record {
            events = c.as_slice.result.now;
            spelled = came.2 ∙ ap Ok (sym c.as_slice.ensures.value);
            first = first h o;
          })),
    )

pub returns-clause-whole : goal.returns-clause-whole
returns-clause-whole g c = any_end (Err c.from.result) _ c.in_ok-events.ensures.whole

pub returns-clause-reads : goal.returns-clause-reads
returns-clause-reads g c =
    let none = book_unread c.in-Err.fault in
    rw c.from.ensures (omega (arith, none, c.in_ok-events.ensures.failures))

pub returns-clause-store : goal.returns-clause-store
returns-clause-store g c =
    let store = (rw c.in-Err.is at c.take_each.ensures.store) in
    rw c.from.ensures (book_stored c.in-Err.fault _ _ store)

pub returns-in-Ok-clause-store : goal.returns-in-Ok-clause-store
returns-in-Ok-clause-store g c = rw c.in-Ok.is at c.take_each.ensures.store

pub returns-in_err-events-clause-stays_open : goal.returns-in_err-events-clause-stays_open
returns-in_err-events-clause-stays_open g c = λ h o.
    let p = err_from_is_err_and c.from_residual.result c.from_residual.ensures.1 in
    rw p.1 tt

pub returns-in-Ok-clause-stays_open : goal.returns-in-Ok-clause-stays_open
returns-in-Ok-clause-stays_open g c = rw c.in-Ok.is at c.take_each.ensures.stays_open

pub returns-in_err-events-clause-unwritten : goal.returns-in_err-events-clause-unwritten
returns-in_err-events-clause-unwritten g c =
    let p = err_from_is_err_and c.from_residual.result c.from_residual.ensures.1 in
    let came = c.in_err-events.ensures.read in
    let none = events_unwritten came.0 c.in_err-events.field-0.0 0 came.2 in
    rw (p.1, p.2) (omega (arith, none))

pub returns-clause-unwritten : goal.returns-clause-unwritten
returns-clause-unwritten g c =
    let none = book_unwritten c.in-Err.fault 0 in rw c.from.ensures (omega (arith, none))
