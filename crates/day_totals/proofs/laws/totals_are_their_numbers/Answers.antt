use Rattle.day_totals.proofs.EightNumbers.{same_numbers}
use Rattle.day_totals.proofs.WithinLimits.{AreWithinLimits-whole}
use Rattle.day_totals.proofs.laws.totals_are_their_numbers.Goals as goal

pub returns-clause-same : goal.returns-clause-same
returns-clause-same c = same_numbers

pub returns-clause-limits : goal.returns-clause-limits
returns-clause-limits c = AreWithinLimits-whole
