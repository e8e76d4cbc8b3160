use Rattle.std.proofs.Common.{◌≡◌, List, ℕ, [], ◌∷◌, subst}
use Rattle.std.specs.Prelude.{IfOk, codes}
use Rattle.acq_reports.specs.Marks.{csv_line}
use Rattle.acq_statement.proofs.currency_lines.record_of_sums.Goals as goal

pub returns : goal.returns
returns c =
    let h = rw (c.to_bytes-bytes.ensures.value) at c.record_text.ensures in
    subst (λ (figures : List (List ℕ)). IfOk c.record_text.result (λ text. text.items
    ≡ csv_line ([] ∷ c.args.currency ∷ [] ∷ codes "currency" ∷ [] ∷ [] ∷ figures)))
    c.format-figures.ensures h
