use Rattle.std.proofs.Common.{rules}
use Rattle.acq_rules.proofs.repeats.has_essence_of.Goals as goal

pub returns : goal.returns
returns c = search rules
