use Rattle.std.proofs.Common.{rules}
use Rattle.acq_rules.proofs.reversals.is_final_for.Goals as goal

pub returns-in-Approved : goal.returns-in-Approved
returns-in-Approved c = search rules
