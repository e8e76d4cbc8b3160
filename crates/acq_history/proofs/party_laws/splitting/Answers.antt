use Rattle.acq_history.proofs.IsolatedParties.{splits}
use Rattle.acq_history.proofs.party_laws.splitting.Goals as goal

pub returns : goal.returns
returns c = splits
