-- The fields that texts of sums stand for.
use Rattle.std.specs.Prelude.{ℕ, List, [], ◌∷◌}
use Rattle.acq_statement.specs.declared.figures.Figures.{Figures}

abbrev pub figures_texts : Figures → List (List ℕ)
figures_texts f =
    f.credits.now ∷ f.credit_amount.now ∷ f.credit_reversals.now ∷ f.credit_reversal_amount.now
    ∷ f.debits.now ∷ f.debit_amount.now ∷ f.debit_reversals.now ∷ f.debit_reversal_amount.now
    ∷ f.owed.now ∷ []
