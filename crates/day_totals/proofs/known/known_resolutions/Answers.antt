use Rattle.std.proofs.Common.{refl}
use Rattle.day_totals.proofs.OnLiterals.{day_totals_on_literals}
use Rattle.day_totals.proofs.known.known_resolutions.Goals as goal

pub returns-clause-leap : goal.returns-clause-leap
unfolding day_totals_on_literals
returns-clause-leap c = refl

pub returns-clause-no_leap : goal.returns-clause-no_leap
unfolding day_totals_on_literals
returns-clause-no_leap c = refl

pub returns-clause-year_before : goal.returns-clause-year_before
unfolding day_totals_on_literals
returns-clause-year_before c = refl

pub returns-clause-before_the_first : goal.returns-clause-before_the_first
unfolding day_totals_on_literals
returns-clause-before_the_first c = refl

pub returns-clause-no_month : goal.returns-clause-no_month
unfolding day_totals_on_literals
returns-clause-no_month c = refl

pub returns-clause-thirty_days : goal.returns-clause-thirty_days
unfolding day_totals_on_literals
returns-clause-thirty_days c = refl

pub returns-clause-thirty_one_days : goal.returns-clause-thirty_one_days
unfolding day_totals_on_literals
returns-clause-thirty_one_days c = refl

pub returns-clause-today : goal.returns-clause-today
unfolding day_totals_on_literals
returns-clause-today c = refl

pub returns-clause-tomorrow : goal.returns-clause-tomorrow
unfolding day_totals_on_literals
returns-clause-tomorrow c = refl
