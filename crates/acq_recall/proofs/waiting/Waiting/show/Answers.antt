use Rattle.std.proofs.Common.{subst}
use Rattle.acq_book.specs.Visits.{Saw, SawAll}
use Rattle.acq_recall.proofs.ShownRows.{seen_both, shown}
use Rattle.acq_recall.proofs.waiting.Waiting.show.Goals as goal

pub returns-then-show_each : goal.returns-then-show_each
returns-then-show_each g c =
    let sees = g.V.Visit.sees in
    let last = c.show_each-then-show_each in
    let rest = subst (λ xs. SawAll sees xs c.show_each.new.visitor last.new.visitor)
    c.as_slice-then-show_each.ensures.value
    (shown sees c.as_slice-then-show_each.result.now c.show_each.new.visitor last.new.visitor
    last.result last.ensures.more last.ensures.done) in
    seen_both sees c.args.self.now.earlier.items c.args.self.now.rows.items
    c.args.visitor.now c.show_each.new.visitor last.new.visitor
    (subst (λ xs. Saw sees xs c.args.visitor.now c.show_each.new.visitor)
    c.as_slice.ensures.value (c.show_each.ensures.more c.if-show_each.true)) rest
