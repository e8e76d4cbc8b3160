use Rattle.std.proofs.Common.{take, [], ◌∷◌, ◌++◌, ◌∙◌, sym, ap, subst}
use Rattle.std.proofs.lemmas.List.{take_all, take_more}
use Rattle.std.proofs.lemmas.List.Elements.{All-push}
use Rattle.acq_core.specs.Events.{IsEvent, AreEvents}
use Rattle.acq_headline.proofs.running.every_event_of.Goals as goal

pub loop-event-preserved : goal.loop-event-preserved
loop-event-preserved c =
    let events = c.args.events.now in
    let at = c.loop-event.event-index in
    let e = c.event-item.result in
    subst AreEvents
    (sym (take_more events at e c.loop-event-test.true
    ∙ ap (λ x. take at events ++ x ∷ []) (sym c.event-item.is)))
    (All-push IsEvent (take at events) e c.loop-event.invariant c.every_event.ensures)

pub returns : goal.returns
returns c =
    subst AreEvents (take_all c.loop-event.event-index c.args.events.now c.loop-event-test.false)
    c.loop-event.invariant
