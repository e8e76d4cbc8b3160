use Rattle.day_totals.proofs.WithinLimits.{FitsDay-within, IsWithinLimits-short}
use Rattle.day_totals.proofs.laws.totals_fit_sixteen_digits.Goals as goal

pub returns-clause-within : goal.returns-clause-within
returns-clause-within c = FitsDay-within

pub returns-clause-sums : goal.returns-clause-sums
returns-clause-sums c = IsWithinLimits-short
