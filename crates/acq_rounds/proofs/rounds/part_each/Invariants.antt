use Rattle.std.proofs.Common.{◌≡◌, ◌++◌, ℕ, List, map, reverse}
use Rattle.std.specs.Vec.{vec_len}
use Rattle.acq_rounds.specs.Acts.{Act, Connection, Serves}
use Rattle.acq_rounds.specs.Places.{boxed}
use Rattle.acq_rounds.proofs.rounds.part_each.Given as goal

abbrev pub invariant-loop-place : goal.invariant-loop-place
invariant-loop-place g l =
    let view = boxed g.L.Line g.T.Talk in
    let ended = g.G.Gate.ended in
    record {
      given : g.G.Gate.given l.gate ≡ g.G.Gate.given l.fn.gate;
      others : g.G.Gate.others l.gate ≡ g.G.Gate.others l.fn.gate;
      stopped : g.G.Gate.has_stopped l.gate ≡ g.G.Gate.has_stopped l.fn.gate;
      all : ended l.gate ++ reverse (map view l.places.items)
          ≡ ended l.fn.gate ++ reverse (map view l.fn.places.items);
      serves : (acts : List Act) (front : List Connection) (count : ℕ)
          → Serves acts (ended l.fn.gate) (front ++ map view l.fn.places.items) count
          → Serves acts (ended l.gate) (front ++ map view l.places.items) count;
    }

abbrev pub decreases-loop-place : goal.decreases-loop-place
decreases-loop-place g l = vec_len l.places
