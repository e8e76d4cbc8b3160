use Rattle.std.proofs.Common.{subst, sym}
use Rattle.std.specs.List.{All}
use Rattle.std.proofs.lemmas.List.Elements.{All-push}
use Rattle.acq_inquiry.specs.KeptPostings.{IsKept}
use Rattle.acq_inquiry.proofs.Kept.{same_day_kept}
use Rattle.acq_inquiry.proofs.posted_day.days_copied.Goals as goal

pub loop-day-preserved : goal.loop-day-preserved
loop-day-preserved c = λ t merchant references all.
    let loop = c.loop-day in
    let kept = IsKept t merchant references in
    subst (All kept) (sym c.in_ok-put_day.ensures)
    (All-push kept loop.copies.items c.in_ok-copy.copy
    (loop.invariant t merchant references all)
    (same_day_kept t merchant references c.day-item.result c.in_ok-copy.copy c.in_ok-copy.ensures
    (subst kept (sym c.day-item.is) (all loop.day-index c.day-item.result c.loop-day-test.true))))
