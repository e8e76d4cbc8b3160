use Rattle.std.proofs.Common.{◌++◌, ◌-◌, map}
use Rattle.std.specs.Vec.{vec_len}
use Rattle.acq_core.specs.declared.query.Query.{Query}
use Rattle.acq_message.specs.declared.verdict.Verdict.{Verdict}
use Rattle.acq_rounds.specs.Moves.{Turned}
use Rattle.acq_rounds.specs.Places.{AreQuiet, boxed}
use Rattle.acq_rounds.proofs.rounds.wake_answered.Given as goal

-- some stand in another place, and have gone on
abbrev pub invariant-loop-at : goal.invariant-loop-at
invariant-loop-at g l =
    let view = boxed g.L.Line g.T.Talk in
    record {
      turned : Turned (map view l.fn.awake.items ++ map view l.fn.asleep.items)
          (map view l.awake.items ++ map view l.asleep.items);
      quiet : AreQuiet (map view l.fn.asleep.items) → AreQuiet (map view l.asleep.items);
      said_later : (q : Query) (v : Verdict) → g.I.Issuer.may_say l.issuer q v
          → g.I.Issuer.may_say l.fn.issuer q v;
    }

abbrev pub decreases-loop-at : goal.decreases-loop-at
decreases-loop-at g l = vec_len l.asleep - l.at
