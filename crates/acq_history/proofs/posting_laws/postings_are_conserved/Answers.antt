use Rattle.acq_history.proofs.ConservationStep.{conserved}
use Rattle.acq_history.proofs.posting_laws.postings_are_conserved.Goals as goal

pub returns : goal.returns
returns c = conserved
