use Rattle.std.proofs.Common.{◌≡◌, map}
use Rattle.acq_rounds.specs.Places.{boxed}
use Rattle.acq_rounds.proofs.rounds.look_at.Given as goal

-- none has changed so far
abbrev pub invariant-loop-place : goal.invariant-loop-place
invariant-loop-place g l =
    let view = boxed g.L.Line g.T.Talk in
    record {
      same : map view l.places ≡ map view l.fn.places;
      given : g.G.Gate.given l.gate ≡ g.G.Gate.given l.fn.gate;
      others : g.G.Gate.others l.gate ≡ g.G.Gate.others l.fn.gate;
      ended : g.G.Gate.ended l.gate ≡ g.G.Gate.ended l.fn.gate;
    }
