use Rattle.std.proofs.Common.{refl}
use Rattle.acq_explain.specs.Checks.{passed}
use Rattle.acq_explain.proofs.Passing.{passes}
use Rattle.acq_explain.proofs.laws.checks_are_true.Goals as goal

pub returns-clause-passed : goal.returns-clause-passed
unfolding passed
returns-clause-passed c k r sound = (passes k r sound r.service refl).all

pub returns-clause-failed : goal.returns-clause-failed
returns-clause-failed c k r sound = (passes k r sound r.service refl).fails
