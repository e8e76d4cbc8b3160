use Rattle.std.proofs.Common.{[], subst, sym}
use Rattle.acq_sql_audit.proofs.TookEvents.{HasTaken, took_next, took_none}
use Rattle.acq_sql_audit.proofs.taking.after_events.Goals as goal

pub loop-event-init : goal.loop-event-init
loop-event-init g c =
    subst (λ h. HasTaken g.B.Book c.args.book h []) (sym c.new-host.ensures)
    (took_none g.B.Book c.args.book)

pub loop-event-preserved : goal.loop-event-preserved
loop-event-preserved g c =
    took_next g.B.Book c.args.book c.loop-event.host c.take.new.self c.args.events.now
    c.loop-event.event-index c.event-item.result c.loop-event-test.true c.event-item.is
    c.loop-event.invariant c.in_ok-take.ensures.tables
