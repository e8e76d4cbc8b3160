use Rattle.acq_widening.proofs.WidenedRuns.{runs_widened}
use Rattle.acq_widening.proofs.laws.runs_are_widened.Goals as goal

pub returns : goal.returns
returns c = runs_widened
