use Rattle.acq_show.proofs.Remarked.{unremarked}
use Rattle.acq_show.proofs.laws.remarks_are_refusals.Goals as goal

pub returns : goal.returns
returns c = unremarked
