use Rattle.std.proofs.Common.{refl}
use Rattle.acq_range_changes.proofs.Kept.{no_others}
use Rattle.acq_range_changes.proofs.laws.nothing_to_change.Goals as goal

pub returns : goal.returns
returns c = λ t ranges. rw (no_others t.ranges ranges) refl
