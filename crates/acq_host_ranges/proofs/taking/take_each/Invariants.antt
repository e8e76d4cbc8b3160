-- the events so far were done, their lines were written, and no fault was told
use Rattle.std.proofs.Common.{◌≡◌, ◌++◌, take}
use Rattle.acq_host_ranges.specs.Exchanges.{AreDone, lines_of}
use Rattle.acq_host_ranges.proofs.taking.take_each.Given as goal

abbrev pub invariant-loop-event : goal.invariant-loop-event
invariant-loop-event g l = record {
  done : AreDone (take l.event-index l.events)
      (record { sent = g.L.Sink.sent l.fn.lines; came = g.A.Source.received l.fn.answers })
      (record { sent = g.L.Sink.sent l.lines; came = g.A.Source.received l.answers });
  written : g.K.Sink.sent l.output
      ≡ g.K.Sink.sent l.fn.output ++ lines_of (take l.event-index l.events);
  quiet : g.F.Sink.sent l.faults ≡ g.F.Sink.sent l.fn.faults;
}
