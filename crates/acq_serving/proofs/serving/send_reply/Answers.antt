use Rattle.std.proofs.Common.{◌∙◌, sym, ap, inl, inr, length, ◌==◌, ◌<◌, List, ℕ, subst}
use Rattle.acq_front.proofs.Turned.{empty_unfit, long_unfit}
use Rattle.acq_serving.proofs.serving.send_reply.Goals as goal

pub returns-then-is_empty-clause-store : goal.returns-then-is_empty-clause-store
returns-then-is_empty-clause-store g c = λ fits.
    let fit = fits c.in-Reply.field-0 c.in-Reply.reply c.in-Reply.is in
    let is = c.as_bytes-text.ensures in
    elim c.then-is_empty.either [
      | inl e ↦ empty_unfit c.in-Reply.reply
          (ap (λ (l : List ℕ). length l == 0) (sym is) ∙ sym c.is_empty.ensures ∙ e) fit
      | inr e ↦ long_unfit c.in-Reply.reply (subst (λ (l : List ℕ). 4096 < length l) is e.1) fit
    ]

pub returns-then-is_empty-clause-sent : goal.returns-then-is_empty-clause-sent
returns-then-is_empty-clause-sent g c = λ fits. absurd (returns-then-is_empty-clause-store g c fits)
