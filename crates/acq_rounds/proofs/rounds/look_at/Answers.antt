use Rattle.std.proofs.Common.{◌∙◌, ap, get_or, map}
use Rattle.std.specs.Box.{with_value}
use Rattle.acq_rounds.specs.Places.{boxed, seen}
use Rattle.acq_rounds.proofs.Moving.{same_at}
use Rattle.acq_rounds.proofs.rounds.look_at.Goals as goal
use Rattle.acq_rounds.proofs.rounds.look_at.Goals.{in-Some, in_default}

pub loop-place-preserved : goal.loop-place-preserved
loop-place-preserved g c =
    let see = seen g.L.Line g.T.Talk in
    let view = boxed g.L.Line g.T.Talk in
    let ps = c.loop-place.places in
    let i = c.loop-place.place-index in
    let d = c.place-item.result in
    let was = map view c.args.places.now in
    let is = ap see c.deref_mut-place.ensures.value in
    record {
      same = elim c.match-ends.branch [
        | in-Some w ↦ ap (map view) w.places-is
            ∙ same_at view was ps i d (with_value (get_or ps i d) w.end.new.self)
            (w.end.ensures ∙ is) c.loop-place.invariant.same
        | in_default w ↦ ap (map view) w.places-is
            ∙ same_at view was ps i d (with_value (get_or ps i d) c.deref_mut-place.result.now)
            is c.loop-place.invariant.same
      ];
      given = c.ends.ensures.given ∙ c.loop-place.invariant.given;
      others = c.ends.ensures.others ∙ c.loop-place.invariant.others;
      ended = c.ends.ensures.ended ∙ c.loop-place.invariant.ended;
    }
