use Rattle.std.proofs.Common.{rules}
use Rattle.acq_lists.proofs.requests.Requests.reserve_for.Goals as goal

pub invariant_of-self-2 : goal.invariant_of-self-2
invariant_of-self-2 c = search rules
