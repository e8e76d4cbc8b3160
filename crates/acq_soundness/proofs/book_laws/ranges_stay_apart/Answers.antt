use Rattle.acq_soundness.proofs.RangesStayApart.{ranges_stay_apart}
use Rattle.acq_soundness.proofs.book_laws.ranges_stay_apart.Goals as goal

pub returns : goal.returns
returns c = ranges_stay_apart
