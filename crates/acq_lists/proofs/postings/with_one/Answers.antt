use Rattle.std.proofs.Common.{rules}
use Rattle.acq_lists.proofs.postings.with_one.Goals as goal

pub returns : goal.returns
returns c = search rules
