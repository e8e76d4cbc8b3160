use Rattle.std.proofs.Common.{◌≤◌, ◌-◌, length}
use Rattle.acq_rounds.proofs.rounds.place_of.Given as goal

abbrev pub invariant-loop-low : goal.invariant-loop-low
invariant-loop-low g l = record {
  within : l.low ≤ l.high;
  inside : l.high ≤ length l.fn.places;
}

abbrev pub decreases-loop-low : goal.decreases-loop-low
decreases-loop-low g l = l.high - l.low
