-- What is told of the store after calls in which nothing of it failed.
use Rattle.std.proofs.Common.{◌≡◌, ℕ, Err, ◌∙◌, inl, inr, subst}
use Rattle.std.specs.Prelude.{Result}
use Rattle.acq_book.specs.Promise.{HasRisen}
use Rattle.acq_faults.specs.Faults.{TellsStore}
use Rattle.acq_faults.specs.declared.fault.Fault as fault

-- what is told is told with a weaker reason, and of a longer time in which nothing more failed
pub tells_later : (result : Result (Unit {0}) fault.Fault) (P Q : Type 0) {a b : ℕ} (c : ℕ) →
    b ≡ a → (P → Q) → TellsStore result b c P → TellsStore result a c Q
tells_later (Err fault.TheVariants.Store) P Q c same so (inl risen) =
    inl (subst (λ (n : ℕ). HasRisen n c) same risen)
tells_later (Err fault.TheVariants.Store) P Q c same so (inr p) = inr (so p)
tells_later result P Q c same so is = is ∙ same
