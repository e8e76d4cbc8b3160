use Rattle.std.proofs.Common.{rules}
use Rattle.acq_lists.proofs.requests.Requests.used.Goals as goal

pub returns : goal.returns
returns c = search rules
