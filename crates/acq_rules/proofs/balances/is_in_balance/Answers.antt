use Rattle.std.proofs.Common.{rules}
use Rattle.acq_rules.proofs.balances.is_in_balance.Goals as goal

pub returns : goal.returns
returns c = search rules
