use Rattle.std.proofs.Common.{refl}
use Rattle.day_totals.proofs.OnLiterals.{day_totals_on_literals}
use Rattle.day_totals.proofs.known.known_dates.Goals as goal

pub returns-clause-first : goal.returns-clause-first
unfolding day_totals_on_literals
returns-clause-first c = refl

pub returns-clause-leap_2000 : goal.returns-clause-leap_2000
unfolding day_totals_on_literals
returns-clause-leap_2000 c = refl

pub returns-clause-leap_2004 : goal.returns-clause-leap_2004
unfolding day_totals_on_literals
returns-clause-leap_2004 c = refl

pub returns-clause-leap_2024 : goal.returns-clause-leap_2024
unfolding day_totals_on_literals
returns-clause-leap_2024 c = refl

pub returns-clause-no_leap : goal.returns-clause-no_leap
unfolding day_totals_on_literals
returns-clause-no_leap c = refl

pub returns-clause-after : goal.returns-clause-after
unfolding day_totals_on_literals
returns-clause-after c = refl

pub returns-clause-month_and_day : goal.returns-clause-month_and_day
unfolding day_totals_on_literals
returns-clause-month_and_day c = refl

pub returns-clause-last : goal.returns-clause-last
unfolding day_totals_on_literals
returns-clause-last c = refl
