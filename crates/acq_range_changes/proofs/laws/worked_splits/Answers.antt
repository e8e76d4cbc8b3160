use Rattle.std.proofs.Common.{refl}
use Rattle.acq_range_changes.proofs.laws.worked_splits.Goals as goal

pub returns : goal.returns
returns c = record {
  split = refl;
  joined = refl;
  none_listed = refl;
  none_before = refl;
}
