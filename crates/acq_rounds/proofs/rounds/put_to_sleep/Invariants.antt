use Rattle.std.proofs.Common.{◌++◌, ◌-◌, map}
use Rattle.std.specs.Vec.{vec_len}
use Rattle.acq_rounds.specs.Moves.{Turned}
use Rattle.acq_rounds.specs.Places.{AreQuiet, boxed}
use Rattle.acq_rounds.proofs.rounds.put_to_sleep.Given as goal

-- some stand in another place
abbrev pub invariant-loop-at : goal.invariant-loop-at
invariant-loop-at g l =
    let view = boxed g.L.Line g.T.Talk in
    record {
      turned : Turned (map view l.fn.awake.items ++ map view l.fn.asleep.items)
          (map view l.awake.items ++ map view l.asleep.items);
      quiet : AreQuiet (map view l.fn.asleep.items) → AreQuiet (map view l.asleep.items);
    }

abbrev pub decreases-loop-at : goal.decreases-loop-at
decreases-loop-at g l = vec_len l.awake - l.at
