-- What an answer unfolds to compute this crate's definitions on literals.
use Rattle.std.specs.Prelude.{⊤}
use Rattle.std.specs.Fmt.{digits}
use Rattle.hex.proofs.OnLiterals.{hex_on_literals}
use Rattle.csv.proofs.OnLiterals.{csv_on_literals}
use Rattle.day_totals.proofs.OnLiterals.{day_totals_on_literals}

unfoldable pub out_on_literals : ⊤
unfolding digits hex_on_literals csv_on_literals day_totals_on_literals
out_on_literals = tt
