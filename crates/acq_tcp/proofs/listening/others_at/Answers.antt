-- the host's own lines are among those to which none came
use Rattle.std.proofs.Common.{[]}
use Rattle.acq_tcp.proofs.listening.others_at.Goals as goal

pub new-others-requires : goal.new-others-requires
new-others-requires c = λ t. c.admit.ensures.stays t [] (c.in_ok-controls.ensures t)
