use Rattle.acq_widening.proofs.WidenedRuns.{valid_by_six}
use Rattle.acq_widening.proofs.laws.ranges_fit_their_profile.Goals as goal

pub returns : goal.returns
returns c = valid_by_six
