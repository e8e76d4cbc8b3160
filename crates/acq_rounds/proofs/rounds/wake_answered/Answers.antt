use Rattle.std.proofs.Common.{◌≡◌, ◌<◌, ◌++◌, ◌∙◌, ◌∷◌, [], ap, arith, length, map, subst, sym}
use Rattle.std.proofs.lemmas.Grind.{common_steps}
use Rattle.std.specs.Box.{with_value}
use Rattle.acq_rounds.specs.Moves.{GoesOn, Turned}
use Rattle.acq_rounds.specs.Places.{AreQuiet, boxed, seen}
use Rattle.acq_rounds.proofs.Turning.{quiet_without, turned_both, turned_up_on}
use Rattle.acq_rounds.proofs.rounds.wake_answered.Goals as goal

pub loop-at-preserved-then-is_answered : goal.loop-at-preserved-then-is_answered
loop-at-preserved-then-is_answered g c =
    let see = seen g.L.Line g.T.Talk in
    let view = boxed g.L.Line g.T.Talk in
    let inv = c.loop-at.invariant in
    let up = c.loop-at.awake.items in
    let down = c.loop-at.asleep.items in
    let at = c.loop-at.at in
    let first = map view c.args.awake.now.items ++ map view c.args.asleep.now.items in
    let y = with_value c.remove-place.result c.hear.new.self in
    let lt : at < length down = omega (arith, c.loop-at-test.true) in
    let kept : c.reserve.new.self.items ≡ up = c.reserve.ensures.items in
    let put : c.push.new.self.items ≡ up ++ y ∷ [] = grind (arith, common_steps) in
    let on = subst (λ x. GoesOn x (see c.hear.new.self))
    (ap see c.deref_mut.ensures.value ∙ ap view c.remove-place.ensures.value) c.hear.ensures in
    record {
      turned = turned_both first (map view up ++ map view down)
          (map view c.push.new.self.items ++ map view c.remove-place.new.self.items) inv.turned
          (subst (λ l. Turned (map view up ++ map view down)
          (map view l ++ map view c.remove-place.new.self.items)) (sym put)
          (subst (λ l. Turned (map view up ++ map view down)
          (map view (up ++ y ∷ []) ++ map view l)) (sym c.remove-place.ensures.items)
          (turned_up_on view down at c.remove-place.result lt up y on)));
      quiet = λ q. subst (λ l. AreQuiet (map view l)) (sym c.remove-place.ensures.items)
          (quiet_without view down at c.remove-place.result lt (inv.quiet q));
      said_later = λ q v h. inv.said_later q v (c.is_answered.ensures.later q v h);
    }
