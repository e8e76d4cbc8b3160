use Rattle.std.proofs.Common.{refl}
use Rattle.day_totals.proofs.OnLiterals.{day_totals_on_literals}
use Rattle.day_totals.proofs.known.known_totals.Goals as goal

pub returns-clause-sale : goal.returns-clause-sale
unfolding day_totals_on_literals
returns-clause-sale c = refl

pub returns-clause-reversed_alone : goal.returns-clause-reversed_alone
unfolding day_totals_on_literals
returns-clause-reversed_alone c = refl

pub returns-clause-nothing : goal.returns-clause-nothing
unfolding day_totals_on_literals
returns-clause-nothing c = refl

pub returns-clause-counts : goal.returns-clause-counts
unfolding day_totals_on_literals
returns-clause-counts c = refl

pub returns-clause-amounts : goal.returns-clause-amounts
unfolding day_totals_on_literals
returns-clause-amounts c = refl

pub returns-clause-greatest : goal.returns-clause-greatest
unfolding day_totals_on_literals
returns-clause-greatest c = refl

pub returns-clause-one : goal.returns-clause-one
unfolding day_totals_on_literals
returns-clause-one c = refl

pub returns-clause-balanced : goal.returns-clause-balanced
unfolding day_totals_on_literals
returns-clause-balanced c = refl

pub returns-clause-differs : goal.returns-clause-differs
unfolding day_totals_on_literals
returns-clause-differs c = refl
