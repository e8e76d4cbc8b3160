use Rattle.std.proofs.Common.{◌≡◌, ◌++◌, ◌∙◌, ◌∷◌, [], ap, arith, map, subst, sym}
use Rattle.std.proofs.lemmas.Grind.{common_steps}
use Rattle.std.specs.Box.{with_value}
use Rattle.acq_rounds.specs.Moves.{Turned}
use Rattle.acq_rounds.specs.Places.{AreQuiet, boxed, seen}
use Rattle.acq_rounds.proofs.Turning.{quiet_without, turned_up}
use Rattle.acq_rounds.proofs.rounds.wake.Goals as goal

pub returns-clause-turned : goal.returns-clause-turned
returns-clause-turned g c =
    let see = seen g.L.Line g.T.Talk in
    let view = boxed g.L.Line g.T.Talk in
    let up = c.args.awake.now.items in
    let down = c.args.asleep.now.items in
    let at = c.place_of-at.result in
    let y = with_value c.remove-place.result c.wake.new.self in
    let put : c.push.new.self.items ≡ up ++ y ∷ [] = grind (arith, common_steps) in
    subst (λ l. Turned (map view up ++ map view down)
    (map view l ++ map view c.remove-place.new.self.items)) (sym put)
    (subst (λ l. Turned (map view up ++ map view down) (map view (up ++ y ∷ []) ++ map view l))
    (sym c.remove-place.ensures.items)
    (turned_up view down at c.remove-place.result (omega (arith, c.if-at-len.false)) up y
    (c.wake.ensures ∙ ap see c.deref_mut.ensures.value
    ∙ ap view c.remove-place.ensures.value)))

pub returns-clause-quiet : goal.returns-clause-quiet
returns-clause-quiet g c = λ q.
    let view = boxed g.L.Line g.T.Talk in
    subst (λ l. AreQuiet (map view l)) (sym c.remove-place.ensures.items)
    (quiet_without view c.args.asleep.now.items c.place_of-at.result c.remove-place.result
    (omega (arith, c.if-at-len.false)) q)
