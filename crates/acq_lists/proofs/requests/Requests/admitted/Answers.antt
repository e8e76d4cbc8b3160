use Rattle.std.proofs.Common.{rules}
use Rattle.acq_lists.proofs.requests.Requests.admitted.Goals as goal

pub returns : goal.returns
returns c = search rules
