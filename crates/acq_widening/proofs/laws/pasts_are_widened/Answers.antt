use Rattle.acq_widening.proofs.WidenedRuns.{pasts_widened}
use Rattle.acq_widening.proofs.laws.pasts_are_widened.Goals as goal

pub returns : goal.returns
returns c = pasts_widened
