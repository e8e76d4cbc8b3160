use Rattle.acq_history.proofs.IsolatedParties.{two_runs}
use Rattle.acq_headline.proofs.laws.same_in_two_runs.Goals as goal

pub returns : goal.returns
returns c = two_runs
