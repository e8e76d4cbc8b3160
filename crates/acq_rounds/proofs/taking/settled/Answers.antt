use Rattle.std.proofs.Common.{◌<◌, ◌==◌, ◌∙◌, ℕ, List, ap, inl, inr, length, subst, sym}
use Rattle.acq_front.proofs.Turned.{empty_unfit, long_unfit}
use Rattle.acq_rounds.proofs.taking.settled.Goals as goal

pub returns-then-is_empty-clause-fits : goal.returns-then-is_empty-clause-fits
returns-then-is_empty-clause-fits c fits =
    let fit = fits c.in-Reply.field-0 c.in-Reply.reply c.in-Reply.is in
    let is = c.as_bytes-text.ensures in
    absurd (elim c.then-is_empty.either [
      | inl e ↦ empty_unfit c.in-Reply.reply
          (ap (λ (l : List ℕ). length l == 0) (sym is) ∙ sym c.is_empty.ensures ∙ e) fit
      | inr e ↦ long_unfit c.in-Reply.reply (subst (λ (l : List ℕ). 4096 < length l) is e.1) fit
    ])
