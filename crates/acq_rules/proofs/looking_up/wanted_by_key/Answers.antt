use Rattle.std.proofs.Common.{rules}
use Rattle.acq_rules.proofs.looking_up.wanted_by_key.Goals as goal

pub returns : goal.returns
returns c = search rules
