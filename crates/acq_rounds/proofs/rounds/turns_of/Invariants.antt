use Rattle.std.proofs.Common.{◌≡◌, ◌++◌, map, drop}
use Rattle.acq_rounds.specs.Groups.{asked}
use Rattle.acq_rounds.specs.Places.{boxed}
use Rattle.acq_rounds.specs.Said.{turns_in}
use Rattle.acq_rounds.proofs.rounds.turns_of.Given as goal

-- what was found so far, and what is left, are all
abbrev pub invariant-loop-place : goal.invariant-loop-place
invariant-loop-place g l =
    let view = boxed g.L.Line g.T.Talk in
    record {
      found : turns_in l.turns.items
          ++ asked (map view (drop l.place-index l.places)) ≡ asked (map view l.places);
    }
