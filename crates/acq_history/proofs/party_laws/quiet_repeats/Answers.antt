use Rattle.acq_history.proofs.RepeatsTakenOut.{repeats}
use Rattle.acq_history.proofs.party_laws.quiet_repeats.Goals as goal

pub returns : goal.returns
returns c = record { quiet = repeats }
