use Rattle.acq_soundness.proofs.ReferencesAreConsecutive.{references_are_consecutive}
use Rattle.acq_soundness.proofs.book_laws.references_are_consecutive.Goals as goal

pub returns : goal.returns
returns c = references_are_consecutive
