use Rattle.acq_history.proofs.RepeatsTakenOut.{repeats}
use Rattle.acq_headline.proofs.laws.repeats_are_quiet.Goals as goal

pub returns : goal.returns
returns c = repeats
