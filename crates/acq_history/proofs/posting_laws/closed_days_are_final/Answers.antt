use Rattle.acq_core.specs.Tables.{new_tables}
use Rattle.acq_history.proofs.FinalDays.{postings_of_closed_day}
use Rattle.acq_history.proofs.posting_laws.closed_days_are_final.Goals as goal

pub returns : goal.returns
returns c = λ opening day es more past none. postings_of_closed_day (new_tables opening) day es more
    past none
