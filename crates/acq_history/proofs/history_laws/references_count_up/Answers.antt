use Rattle.acq_history.proofs.NextReference.{references_count_up}
use Rattle.acq_history.proofs.history_laws.references_count_up.Goals as goal

pub returns : goal.returns
returns c = references_count_up
