-- What is owed, told in three ways.
use Rattle.std.proofs.Common.{◌≡◌, ap, sym, ◌∙◌}
use Rattle.std.proofs.Math.IntN.{ℤ, ◌+ℤ◌, ◌-ℤ◌, neg_ℤ, neg_ℤ-+ℤ, neg_ℤ-neg_ℤ, +ℤ_assoc, +ℤ_comm}

-- a difference, turned round
pub turned : (x y : ℤ) → y -ℤ x ≡ neg_ℤ (x -ℤ y)
turned x y =
    sym (neg_ℤ-+ℤ x (neg_ℤ y)
    ∙ (ap (λ z. neg_ℤ x +ℤ z) (neg_ℤ-neg_ℤ y) ∙ +ℤ_comm (neg_ℤ x) y))

-- a difference of differences is one of sums
pub regrouped : (d r c s : ℤ) → (d -ℤ r) -ℤ (c -ℤ s) ≡ (d +ℤ s) -ℤ (c +ℤ r)
regrouped d r c s =
    ap (λ z. (d -ℤ r) +ℤ z)
    (neg_ℤ-+ℤ c (neg_ℤ s) ∙ ap (λ z. neg_ℤ c +ℤ z) (neg_ℤ-neg_ℤ s))
    ∙ (+ℤ_assoc d (neg_ℤ r) (neg_ℤ c +ℤ s)
    ∙ (ap (λ z. d +ℤ z) inner
    ∙ (sym (+ℤ_assoc d s (neg_ℤ c +ℤ neg_ℤ r))
    ∙ ap (λ z. (d +ℤ s) +ℤ z) (sym (neg_ℤ-+ℤ c r)))))
  where
    inner : neg_ℤ r +ℤ (neg_ℤ c +ℤ s) ≡ s +ℤ (neg_ℤ c +ℤ neg_ℤ r)
    inner =
        +ℤ_comm (neg_ℤ r) (neg_ℤ c +ℤ s)
        ∙ (ap (λ z. z +ℤ neg_ℤ r) (+ℤ_comm (neg_ℤ c) s) ∙ +ℤ_assoc s (neg_ℤ c) (neg_ℤ r))
