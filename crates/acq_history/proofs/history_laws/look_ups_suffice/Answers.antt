use Rattle.acq_history.proofs.LookUpsSuffice.{look_ups_suffice}
use Rattle.acq_history.proofs.history_laws.look_ups_suffice.Goals as goal

pub returns : goal.returns
returns c = look_ups_suffice
