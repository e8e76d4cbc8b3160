use Rattle.std.proofs.Common.{rules}
use Rattle.acq_host.proofs.deciding.apply.Goals as goal

pub returns-in-Some-clause-makes : goal.returns-in-Some-clause-makes
returns-in-Some-clause-makes g c = search rules
