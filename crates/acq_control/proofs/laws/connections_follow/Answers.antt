use Rattle.acq_control.proofs.Following.{follows_none, follows_other, follows_served}
use Rattle.acq_control.proofs.laws.connections_follow.Goals as goal

pub returns : goal.returns
returns c = record { nothing = follows_none; other = follows_other; served = follows_served }
