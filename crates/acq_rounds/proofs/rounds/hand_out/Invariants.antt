use Rattle.std.proofs.Common.{◌≡◌, ◌++◌, map, take, drop}
use Rattle.std.specs.Vec.Iter.{into_iter_items}
use Rattle.acq_rounds.specs.Groups.{handed}
use Rattle.acq_rounds.specs.Places.{boxed}
use Rattle.acq_rounds.specs.Said.{told_by_all}
use Rattle.acq_rounds.proofs.rounds.hand_out.Given as goal

-- what was handed out so far, and what is left, are all
abbrev pub invariant-loop-place : goal.invariant-loop-place
invariant-loop-place g l =
    let view = boxed g.L.Line g.T.Talk in
    record {
      out : map view (take l.place-index l.places)
          ++ handed (map view (drop l.place-index l.places)) (told_by_all (into_iter_items l.said))
          ≡ handed (map view l.fn.places) (told_by_all l.fn.said.items);
      given : g.G.Gate.given l.gate ≡ g.G.Gate.given l.fn.gate;
      others : g.G.Gate.others l.gate ≡ g.G.Gate.others l.fn.gate;
      ended : g.G.Gate.ended l.gate ≡ g.G.Gate.ended l.fn.gate;
    }
