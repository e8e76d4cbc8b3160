use Rattle.acq_history.proofs.ReversedAmounts.{never_exceeds}
use Rattle.acq_history.proofs.posting_laws.reversals_never_exceed.Goals as goal

pub returns : goal.returns
returns c = never_exceeds
