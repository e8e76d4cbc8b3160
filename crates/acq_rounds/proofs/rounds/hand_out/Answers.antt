use Rattle.std.proofs.Common.{◌≡◌, [], ◌<◌, ◌++◌, ◌+◌, ◌∙◌, ap, arith, drop, get_or, length, map, refl, set}
use Rattle.std.proofs.Common.{sym, take}
use Rattle.std.proofs.lemmas.Grind.{common_steps}
use Rattle.std.specs.Box.{with_value}
use Rattle.std.specs.Vec.Iter.{into_iter_items}
use Rattle.acq_rounds.specs.Groups.{answered, handed, is_ready}
use Rattle.acq_rounds.specs.Places.{boxed, seen}
use Rattle.acq_rounds.specs.Said.{told_by_all, told_by}
use Rattle.acq_rounds.proofs.Moving.{handed_out, handed_pass, handed_some, same_at}
use Rattle.acq_rounds.proofs.rounds.hand_out.Goals as goal
use Rattle.acq_rounds.proofs.rounds.hand_out.Goals.{else-is_ready, then-is_ready+in-Some}

pub returns-in_default-clause-out : goal.returns-in_default-clause-out
returns-in_default-clause-out g c =
    let view = boxed g.L.Line g.T.Talk in
    let ps = c.loop-place.places in
    let i = c.loop-place.place-index in
    let d = c.place-item.result in
    let none : into_iter_items c.loop-place.said ≡ [] = grind (arith, common_steps) in
    same_at view (map view ps) ps i d (with_value (get_or ps i d) c.deref_mut-place.result.now)
    (ap (seen g.L.Line g.T.Talk) c.deref_mut-place.ensures.value) refl
    ∙ sym (handed_out view ps i)
    ∙ ap (λ l. map view (take i ps) ++ handed (map view (drop i ps)) (told_by_all l))
    (sym none)
    ∙ c.loop-place.invariant.out

pub loop-place-preserved : goal.loop-place-preserved
loop-place-preserved g c =
    let see = seen g.L.Line g.T.Talk in
    let view = boxed g.L.Line g.T.Talk in
    let ps = c.loop-place.places in
    let i = c.loop-place.place-index in
    let d = c.place-item.result in
    let lt : i < length ps = omega (arith, c.loop-place-test.true, c.loop-place.auto.places) in
    let is = c.deref_mut-place.ensures.value in
    elim c.if-is_ready.branch [
      | then-is_ready+in-Some w ↦
          let y = with_value (get_or ps i d) w.hold.new.self in
          record {
            out = ap (λ l. map view (take (i + 1) l) ++ handed (map view (drop (i + 1) l))
                (told_by_all (into_iter_items c.if-is_ready.said))) w.places-is
                ∙ ap (λ r. map view (take (i + 1) (set ps i y))
                ++ handed (map view (drop (i + 1) (set ps i y)))
                (told_by_all (into_iter_items r))) w.said-is
                ∙ handed_some view ps i d lt y
                (told_by w.in-Some.next) (told_by_all (into_iter_items w.next.new.self))
                (sym (w.if-is_ready.ensures ∙ ap (λ p. is_ready (see p)) is))
                (w.hold.ensures ∙ ap (λ p. answered (see p) (told_by w.in-Some.next)) is)
                ∙ ap (λ l. map view (take i ps) ++ handed (map view (drop i ps)) (told_by_all l))
                (sym w.in-Some.ensures.items)
                ∙ c.loop-place.invariant.out;
            given = ap g.G.Gate.given w.gate-is ∙ w.said.ensures.given
                ∙ c.loop-place.invariant.given;
            others = ap g.G.Gate.others w.gate-is ∙ w.said.ensures.others
                ∙ c.loop-place.invariant.others;
            ended = ap g.G.Gate.ended w.gate-is ∙ w.said.ensures.ended
                ∙ c.loop-place.invariant.ended;
          }
      | else-is_ready w ↦
          let y = with_value (get_or ps i d) c.deref_mut-place.result.now in
          record {
            out = ap (λ l. map view (take (i + 1) l) ++ handed (map view (drop (i + 1) l))
                (told_by_all (into_iter_items c.if-is_ready.said))) w.places-is
                ∙ ap (λ r. map view (take (i + 1) (set ps i y))
                ++ handed (map view (drop (i + 1) (set ps i y)))
                (told_by_all (into_iter_items r))) w.said-is
                ∙ handed_pass view ps i d lt y (told_by_all (into_iter_items c.loop-place.said))
                (sym (w.if-is_ready.ensures ∙ ap (λ p. is_ready (see p)) is)) (ap see is)
                ∙ c.loop-place.invariant.out;
            given = ap g.G.Gate.given w.gate-is ∙ c.loop-place.invariant.given;
            others = ap g.G.Gate.others w.gate-is ∙ c.loop-place.invariant.others;
            ended = ap g.G.Gate.ended w.gate-is ∙ c.loop-place.invariant.ended;
          }
    ]
