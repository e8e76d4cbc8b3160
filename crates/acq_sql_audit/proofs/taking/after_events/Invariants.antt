-- the host has taken the events so far
use Rattle.std.proofs.Common.{take}
use Rattle.acq_sql_audit.proofs.TookEvents.{HasTaken}
use Rattle.acq_sql_audit.proofs.taking.after_events.Given as goal

abbrev pub invariant-loop-event : goal.invariant-loop-event
invariant-loop-event g l = HasTaken g.B.Book l.fn.book l.host (take l.event-index l.events)
