use Rattle.std.proofs.Common.{map, subst, sym, ◌++◌, ◌∷◌, [], arith, ◌∙◌, ap}
use Rattle.std.specs.List.{remove}
use Rattle.acq_rounds.specs.Acts.{Serves}
use Rattle.acq_rounds.specs.Places.{AreQuiet, boxed, seen}
use Rattle.acq_rounds.proofs.Running.{begins_more}
use Rattle.acq_rounds.proofs.Moving.{serves_remove}
use Rattle.acq_rounds.proofs.Turning.{quiet_without}
use Rattle.acq_rounds.proofs.rounds.clear.Goals as goal

pub loop-at-preserved-then-is_some : goal.loop-at-preserved-then-is_some
loop-at-preserved-then-is_some g c =
    let view = boxed g.L.Line g.T.Talk in
    let ended = g.G.Gate.ended in
    let places = c.loop-at.places.items in
    let at = c.loop-at.at in
    let place = c.remove-place.result in
    let ended_is = c.part.ensures.ended
    ∙ ap (λ p. ended c.loop-at.gate ++ seen g.L.Line g.T.Talk p ∷ []) c.into_inner.ensures in
    record {
      given = c.part.ensures.given ∙ c.loop-at.invariant.given;
      others = c.part.ensures.others ∙ c.loop-at.invariant.others;
      gone = begins_more (ended c.args.gate.now) (ended c.loop-at.gate) (view place)
          (ended c.part.new.self) c.loop-at.invariant.gone ended_is;
      quiet = λ q. subst (λ l. AreQuiet (map view l)) (sym c.remove-place.ensures.items)
          (quiet_without view places at place (omega (arith, c.loop-at-test.true))
          (c.loop-at.invariant.quiet q));
      serves = λ acts front behind count s.
          let one = serves_remove view acts (ended c.loop-at.gate) front behind places at place
          count (omega (arith, c.loop-at-test.true))
          (c.loop-at.invariant.serves acts front behind count s) in
          subst (λ l. Serves acts (ended c.part.new.self) (front ++ (map view l ++ behind)) count)
          (sym c.remove-place.ensures.items)
          (subst (λ e. Serves acts e (front ++ (map view (remove places at) ++ behind)) count)
          (ap (λ p. ended c.loop-at.gate ++ view p ∷ []) (sym c.remove-place.ensures.value)
          ∙ sym ended_is) one);
    }
