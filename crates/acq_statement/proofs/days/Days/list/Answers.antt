use Rattle.std.proofs.Common.{add-one, ap, sym, ◌∙◌, ◌++◌, ◌∷◌, []}
use Rattle.std.specs.List.{range_with_len}
use Rattle.acq_statement.proofs.Ranges.{range_push}
use Rattle.acq_statement.proofs.days.Days.list.Goals as goal

pub loop-after-preserved : goal.loop-after-preserved
loop-after-preserved c =
    let first = c.number-first.result in
    let after = c.loop-after.after in
    rw (add-one) (
    c.in_ok-push.ensures.items
    ∙ (ap (λ days. days ++ c.in-Some.day ∷ []) c.loop-after.invariant
    ∙ (ap (λ day. range_with_len first after ++ day ∷ []) c.in-Some.ensures.1
    ∙ sym (range_push first after)))
    )
