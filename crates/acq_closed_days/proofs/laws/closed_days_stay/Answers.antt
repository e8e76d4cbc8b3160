use Rattle.acq_closed_days.proofs.Closed.{given_again, same_postings}
use Rattle.acq_closed_days.proofs.Figures.{same_totals}
use Rattle.acq_closed_days.proofs.laws.closed_days_stay.Goals as goal

pub returns : goal.returns
returns c = record { given = given_again; postings = same_postings; totals = same_totals }
