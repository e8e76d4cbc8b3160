-- What an answer unfolds to compute this crate's definitions on literals.
use Rattle.std.specs.Prelude.{⊤}
use Rattle.day_totals.specs.Day.{date_from_month, year_day_from, date_of, resolved}
use Rattle.day_totals.specs.Digits.{zero_padded}
use Rattle.day_totals.specs.Totals.{totals_of}

unfoldable pub day_totals_on_literals : ⊤
unfolding date_from_month year_day_from date_of resolved zero_padded totals_of
day_totals_on_literals = tt
