use Rattle.std.proofs.Common.{◌≡◌, ◌∙◌, ap, sym, subst}
use Rattle.acq_reports.specs.DaySums.{AreSumsOf, sums_of}
use Rattle.day_totals.specs.Totals.{with_leg_amount}
use Rattle.acq_reports.proofs.Adding.{one_more}
use Rattle.acq_reports.proofs.sums.Sums.add.Goals.{then-not-contains_key+in_ok-push}
use Rattle.acq_reports.proofs.sums.Sums.add.Goals.{else-not-contains_key}
use Rattle.acq_reports.proofs.sums.Sums.add.Goals as goal

pub returns-clause-sums : goal.returns-clause-sums
returns-clause-sums c = λ number rows are.
    let old = c.if-not-contains_key.self.by_merchant in
    let posting = c.args.posting.now in
    let same : old ≡ c.args.self.now.by_merchant =
    elim c.if-not-contains_key.branch [
      | then-not-contains_key+in_ok-push w ↦ ap (λ s. s.by_merchant) w.self-is
      | else-not-contains_key w ↦ ap (λ s. s.by_merchant) w.self-is
    ] in
    one_more rows (number, posting) old c.insert.new.self c.add.new.self
    c.in_ok-insert.ensures.updates.0
    (λ t is. c.add.ensures t (c.sums_at-sums.ensures ∙ is)
    ∙ ap (λ n. sums_of (with_leg_amount t posting.leg n)) c.number.ensures.value)
    (subst (λ s. AreSumsOf rows s) (sym same) are)
