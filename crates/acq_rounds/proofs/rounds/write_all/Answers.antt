use Rattle.std.proofs.Common.{get_or, map, subst}
use Rattle.std.specs.Box.{with_value}
use Rattle.acq_rounds.specs.Moves.{GoesOn}
use Rattle.acq_rounds.specs.Places.{boxed, seen}
use Rattle.acq_rounds.proofs.Moving.{goes_on_at}
use Rattle.acq_rounds.proofs.rounds.write_all.Goals as goal

pub loop-place-preserved : goal.loop-place-preserved
loop-place-preserved g c =
    let see = seen g.L.Line g.T.Talk in
    let view = boxed g.L.Line g.T.Talk in
    let old = get_or c.loop-place.places c.loop-place.place-index c.place-item.result in
    record {
      on = goes_on_at view (map view c.args.places.now) c.loop-place.places c.loop-place.place-index
          c.place-item.result (with_value old c.write.new.self)
          (subst (λ p. GoesOn (see p) (see c.write.new.self)) c.deref_mut.ensures.value
          c.write.ensures)
          c.loop-place.invariant.on;
    }
