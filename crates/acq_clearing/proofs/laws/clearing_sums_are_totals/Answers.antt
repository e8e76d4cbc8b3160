use Rattle.acq_clearing.proofs.Cleared.{clears}
use Rattle.acq_clearing.proofs.laws.clearing_sums_are_totals.Goals as goal

pub returns : goal.returns
returns c = clears
