use Rattle.std.proofs.Common.{rules}
use Rattle.acq_rules.proofs.posted.approval_posting.Goals as goal

pub returns : goal.returns
returns c = search rules
