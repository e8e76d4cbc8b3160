use Rattle.std.proofs.Common.{◌≡◌, ◌<◌, ◌++◌, ◌∙◌, ◌∷◌, ap, arith, false, length, map, subst, sym}
use Rattle.std.proofs.lemmas.List.{get_or_default}
use Rattle.acq_rounds.specs.Groups.{is_ready}
use Rattle.acq_rounds.specs.Moves.{Turned}
use Rattle.acq_rounds.specs.Places.{AreQuiet, boxed, seen}
use Rattle.acq_rounds.proofs.Turning.{all_insert, turned_both, turned_down}
use Rattle.acq_rounds.proofs.rounds.put_to_sleep.Goals as goal

pub loop-at-preserved : goal.loop-at-preserved
loop-at-preserved g c =
    let view = boxed g.L.Line g.T.Talk in
    let up = c.loop-at.awake.items in
    let down = map view c.loop-at.asleep.items in
    let place = c.remove-place.result in
    let first = map view c.args.awake.now.items ++ map view c.args.asleep.now.items in
    let now = map view c.put_in.new.places.items in
    let kept = ap (map view) c.reserve.ensures.items in
    let put = c.put_in.ensures in
    let is = ap view c.remove-place.ensures.value in
    let see = seen g.L.Line g.T.Talk in
    let lt : c.loop-at.at < length up = omega (arith, c.loop-at-test.true) in
    let found : place ≡ c.index.result.now =
    c.remove-place.ensures.value ∙ get_or_default up c.loop-at.at place c.index.result.now lt
    ∙ sym c.index.ensures in
    record {
      turned = turned_both first (map view up ++ down)
          (map view c.remove-place.new.self.items ++ now) c.loop-at.invariant.turned
          (subst (λ l. Turned (map view up ++ down) (map view l ++ now))
          (sym c.remove-place.ensures.items)
          (turned_down view up c.loop-at.at place
          lt down now put.0 put.1 (sym kept ∙ put.2)
          (put.3 ∙ ap (λ x. put.0 ++ (x ∷ put.1)) is)));
      quiet = λ q. subst AreQuiet (sym put.3)
          (all_insert (λ x. is_ready x ≡ false) put.0 (view place) put.1
          (subst AreQuiet (sym kept ∙ put.2) (c.loop-at.invariant.quiet q))
          (ap (λ p. is_ready (see p)) (ap (λ b. b.value) found ∙ sym c.deref.ensures)
          ∙ c.is_awake.ensures c.if-is_awake.false));
    }
