use Rattle.day_totals.proofs.DatesOfDays.{dates_of_days}
use Rattle.day_totals.proofs.laws.dates_are_the_calendars.Goals as goal

pub returns : goal.returns
returns c = dates_of_days
