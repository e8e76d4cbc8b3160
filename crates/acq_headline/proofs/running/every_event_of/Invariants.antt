-- the events so far are such
use Rattle.std.proofs.Common.{take}
use Rattle.acq_core.specs.Events.{AreEvents}
use Rattle.acq_headline.proofs.running.every_event_of.Given as goal

abbrev pub invariant-loop-event : goal.invariant-loop-event
invariant-loop-event l = AreEvents (take l.event-index l.events)
