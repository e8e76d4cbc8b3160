use Rattle.std.proofs.Common.{refl}
use Rattle.day_totals.specs.Totals.{totals_of}
use Rattle.day_totals.proofs.totals.Totals.zero.Goals as goal

pub returns-clause-sums : goal.returns-clause-sums
unfolding totals_of
returns-clause-sums c = refl
