use Rattle.std.proofs.Common.{rules}
use Rattle.acq_rules.proofs.holds.is_open_at.Goals as goal

pub returns-then-matches : goal.returns-then-matches
returns-then-matches c = search rules
