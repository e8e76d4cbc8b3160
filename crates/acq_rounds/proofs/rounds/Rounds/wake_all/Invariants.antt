use Rattle.std.proofs.Common.{◌≡◌}
use Rattle.acq_rounds.specs.Moves.{Turned}
use Rattle.acq_rounds.specs.Places.{AreQuiet, asleep_in, count_of, seen_in}
use Rattle.acq_rounds.proofs.rounds.Rounds.wake_all.Given as goal

-- some stand in another place
abbrev pub invariant-loop : goal.invariant-loop
invariant-loop g l =
    let here = seen_in g.L.Line g.T.Talk in
    let asleep = asleep_in g.L.Line g.T.Talk in
    let count = count_of g.L.Line g.T.Talk in
    record {
      turned : Turned (here l.fn.self) (here l.self);
      quiet : AreQuiet (asleep l.fn.self) → AreQuiet (asleep l.self);
      count : count l.self ≡ count l.fn.self;
      given : g.G.Gate.given l.gate ≡ g.G.Gate.given l.fn.gate;
      others : g.G.Gate.others l.gate ≡ g.G.Gate.others l.fn.gate;
      ended : g.G.Gate.ended l.gate ≡ g.G.Gate.ended l.fn.gate;
    }
