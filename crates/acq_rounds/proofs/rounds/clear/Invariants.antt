use Rattle.std.proofs.Common.{◌≡◌, ◌++◌, ◌-◌, ℕ, List, map}
use Rattle.std.specs.Vec.{vec_len}
use Rattle.acq_rounds.specs.Acts.{Act, Connection, Serves}
use Rattle.acq_rounds.specs.Runs.{Begins}
use Rattle.acq_rounds.specs.Places.{AreQuiet, boxed}
use Rattle.acq_rounds.proofs.rounds.clear.Given as goal

abbrev pub invariant-loop-at : goal.invariant-loop-at
invariant-loop-at g l =
    let view = boxed g.L.Line g.T.Talk in
    let ended = g.G.Gate.ended in
    record {
      given : g.G.Gate.given l.gate ≡ g.G.Gate.given l.fn.gate;
      others : g.G.Gate.others l.gate ≡ g.G.Gate.others l.fn.gate;
      gone : Begins (ended l.fn.gate) (ended l.gate);
      quiet : AreQuiet (map view l.fn.places.items) → AreQuiet (map view l.places.items);
      serves : (acts : List Act) (front behind : List Connection) (count : ℕ)
          → Serves acts (ended l.fn.gate) (front ++ (map view l.fn.places.items ++ behind)) count
          → Serves acts (ended l.gate) (front ++ (map view l.places.items ++ behind)) count;
    }

abbrev pub decreases-loop-at : goal.decreases-loop-at
decreases-loop-at g l = vec_len l.places - l.at
