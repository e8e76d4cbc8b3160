-- What was put behind a text, and more behind that.
use Rattle.std.proofs.Common.{◌≡◌, ◌∙◌, ◌++◌, ℕ, List, ap, append_assoc}

pub appended : (old put more before after : List ℕ) → before ≡ old ++ put → after ≡ before ++ more
    → after ≡ old ++ (put ++ more)
appended old put more before after so grown =
    grown ∙ ap (λ (l : List ℕ). l ++ more) so ∙ append_assoc old put more
