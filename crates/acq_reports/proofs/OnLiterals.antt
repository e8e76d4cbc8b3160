-- What an answer unfolds to compute this crate's definitions on literals.
use Rattle.std.specs.Prelude.{⊤}
use Rattle.std.specs.Fmt.{digits}
use Rattle.csv.specs.Writing.{escaped, fields_text, is_blank}
use Rattle.day_totals.proofs.OnLiterals.{day_totals_on_literals}

unfoldable pub reports_on_literals : ⊤
unfolding digits escaped fields_text is_blank day_totals_on_literals
reports_on_literals = tt
