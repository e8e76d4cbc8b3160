use Rattle.std.proofs.Common.{map}
use Rattle.acq_rounds.specs.Moves.{AllGoOn}
use Rattle.acq_rounds.specs.Places.{boxed}
use Rattle.acq_rounds.proofs.rounds.write_all.Given as goal

-- each has gone on so far
abbrev pub invariant-loop-place : goal.invariant-loop-place
invariant-loop-place g l =
    let view = boxed g.L.Line g.T.Talk in
    record { on : AllGoOn (map view l.fn.places) (map view l.places) }
