use Rattle.acq_history.proofs.DayOfPosting.{requests_post_today}
use Rattle.acq_history.proofs.history_laws.requests_post_today.Goals as goal

pub returns : goal.returns
returns c = requests_post_today
