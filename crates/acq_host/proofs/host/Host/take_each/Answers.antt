-- what the host took within the group so far, and one event more
use Rattle.std.proofs.Common.{◌≡◌, [], true, false, is_ok, rules, sym, ap, ◌∙◌, subst, arith}
use Rattle.std.proofs.lemmas.List.{take_all}
use Rattle.acq_core.specs.Tables.{outputs, tables_after}
use Rattle.acq_book.specs.Calls.{MakesWithin}
use Rattle.acq_host.proofs.Groups.{TookWithin, all_within, broken_within, took_next_within}
use Rattle.acq_host.proofs.Groups.{took_none_within}
use Rattle.acq_host.proofs.host.Host.take_each.Goals as goal

pub loop-event-init : goal.loop-event-init
loop-event-init g c = record {
  took =
      subst (TookWithin g.B.Book c.args.self.now c.args.self.now [])
      (sym c.new-said.ensures.items) (took_none_within g.B.Book c.args.self.now);
}

pub loop-event-preserved : goal.loop-event-preserved
loop-event-preserved g c = record {
  took =
      took_next_within g.B.Book c.args.self.now c.loop-event.self c.take_next.new.self
      c.args.events.now c.loop-event.event-index c.event-item.result c.loop-event.said.items
      c.take_next.new.said.items (omega arith) c.event-item.is c.loop-event.invariant.took
      c.in_ok-take_next.ensures.tables c.in_ok-take_next.ensures.within
      c.in_ok-take_next.ensures.said_within c.in_ok-take_next.ensures.store;
}

pub returns-clause-outputs : goal.returns-clause-outputs
returns-clause-outputs g c began n h w =
    c.loop-event.invariant.took.says began n h w
    ∙ ap (outputs (g.B.Book.tables c.args.self.now))
    (take_all c.loop-event.event-index c.args.events.now c.loop-event-test.false)

pub returns-clause-within : goal.returns-clause-within
returns-clause-within g c =
    subst (λ es. MakesWithin g.B.Book c.args.self.now c.loop-event.self true
    (tables_after (g.B.Book.tables c.args.self.now) es))
    (take_all c.loop-event.event-index c.args.events.now c.loop-event-test.false)
    (all_within g.B.Book _ _ _ _ c.loop-event.invariant.took)

pub returns-in_err-take_next-clause-within : goal.returns-in_err-take_next-clause-within
returns-in_err-take_next-clause-within g c =
    let failed : is_ok c.from_residual.result ≡ false = search rules in
    subst (λ ok. MakesWithin g.B.Book c.args.self.now c.take_next.new.self ok
    (tables_after (g.B.Book.tables c.args.self.now) c.args.events.now)) (sym failed)
    (broken_within g.B.Book c.args.self.now c.loop-event.self c.take_next.new.self _ _ _ _
    c.loop-event.invariant.took c.in_err-take_next.ensures.tables.was_honest
    c.in_err-take_next.ensures.within)
