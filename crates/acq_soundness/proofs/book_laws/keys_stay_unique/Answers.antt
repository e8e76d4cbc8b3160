use Rattle.acq_soundness.proofs.KeysStayUnique.{keys_stay_unique}
use Rattle.acq_soundness.proofs.book_laws.keys_stay_unique.Goals as goal

pub returns : goal.returns
returns c = keys_stay_unique
