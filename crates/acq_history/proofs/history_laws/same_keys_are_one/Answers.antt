use Rattle.acq_soundness.proofs.Keys.{same_key_is, same_key_from}
use Rattle.acq_history.proofs.history_laws.same_keys_are_one.Goals as goal

pub returns : goal.returns
returns c = λ a b. (same_key_is a b, same_key_from a b)
