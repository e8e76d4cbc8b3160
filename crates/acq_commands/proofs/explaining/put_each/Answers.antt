use Rattle.std.proofs.Common.{◌++◌, take, refl, sym, ap, ◌∙◌, append_assoc, arith}
use Rattle.acq_host.proofs.Chains.{looks_then}
use Rattle.acq_link.specs.MemorySink.{sent_of}
use Rattle.acq_explain.specs.Explained.{explained_in}
use Rattle.acq_commands.specs.Explain.{explanations}
use Rattle.acq_commands.proofs.Explanations.{explained_next}
use Rattle.acq_commands.proofs.explaining.put_each.Goals as goal

pub loop-event-preserved : goal.loop-event-preserved
loop-event-preserved g c =
    let so = c.loop-event.invariant in
    let e = c.event-item.result in
    let looks = c.in_ok-write.ensures.looks in
    let before = explanations (g.B.Book.tables c.args.book.now)
    (take c.loop-event.event-index c.args.events.now) in (
      looks_then g.B.Book so.0 looks,
      λ h o.
          let was = looks.was_honest h in
          let between = so.0.stays_open refl was o in
          (c.in_ok-write.ensures.text h between).1
          ∙ (ap (λ x. sent_of c.loop-event.text ++ explained_in x e) (so.0.same between)
          ∙ (ap (λ x. x ++ explained_in (g.B.Book.tables c.args.book.now) e) (so.1 was o)
          ∙ (append_assoc (sent_of c.args.text.now) before
          (explained_in (g.B.Book.tables c.args.book.now) e)
          ∙ ap (λ x. sent_of c.args.text.now ++ x)
          (sym (explained_next (g.B.Book.tables c.args.book.now) c.args.events.now
          c.loop-event.event-index e (omega arith) c.event-item.is))))),
    )
