use Rattle.std.proofs.Common.{rules}
use Rattle.acq_rules.proofs.reversals.reversed_status.Goals as goal

pub returns-in-Pending : goal.returns-in-Pending
returns-in-Pending c = search rules
