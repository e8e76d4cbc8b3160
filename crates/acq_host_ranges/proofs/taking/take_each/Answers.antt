use Rattle.std.proofs.Common.{◌≡◌, ◌∙◌, ◌++◌, ℕ, List, Ok, append_assoc, ap, arith, rules, sym}
use Rattle.std.proofs.Common.{take, true}
use Rattle.acq_range_changes.specs.Lines.{change_line}
use Rattle.acq_host_ranges.specs.Exchanges.{lines_of}
use Rattle.acq_host_ranges.proofs.Doing.{done_next, lines_next}
use Rattle.acq_host_ranges.proofs.taking.take_each.Goals as goal

pub loop-event-preserved : goal.loop-event-preserved
loop-event-preserved g c =
    let so = c.loop-event.invariant in
    let events = c.args.events.now in
    let at = c.loop-event.event-index in
    let event = c.event-item.result in
    let written = g.K.Sink.sent c.args.output.now in
    let ok : c.take_one.result ≡ Ok true = search rules in
    let one = c.take_one.ensures.done ok in
    record {
      done = done_next events at event _ _ _ one.0 (omega arith) c.event-item.is so.done one.1
          one.2;
      written = c.take_one.ensures.written ok
          ∙ ap (λ (l : List ℕ). l ++ change_line event) so.written
          ∙ append_assoc written (lines_of (take at events)) (change_line event)
          ∙ ap (λ (l : List ℕ). written ++ l)
          (sym (lines_next events at event (omega arith) c.event-item.is));
      quiet = c.take_one.ensures.quiet ok ∙ so.quiet;
    }
