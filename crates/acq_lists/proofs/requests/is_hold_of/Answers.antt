use Rattle.std.proofs.Common.{rules}
use Rattle.acq_lists.proofs.requests.is_hold_of.Goals as goal

pub returns-in_default-matches : goal.returns-in_default-matches
returns-in_default-matches c = search rules
