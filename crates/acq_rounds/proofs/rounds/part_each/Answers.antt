use Rattle.std.proofs.Common.{◌≡◌, ◌++◌, ◌∙◌, [], ◌∷◌, ap, append-nil, append_assoc, arith, map}
use Rattle.std.proofs.Common.{reverse, subst, sym}
use Rattle.std.proofs.lemmas.Grind.{common_steps}
use Rattle.std.proofs.lemmas.List.{map-append}
use Rattle.acq_rounds.specs.Acts.{Serves}
use Rattle.acq_rounds.specs.Places.{boxed, seen}
use Rattle.acq_rounds.proofs.Lasting.{serves_last}
use Rattle.acq_rounds.proofs.Lists.{reverse_last}
use Rattle.acq_rounds.proofs.rounds.part_each.Goals as goal

pub loop-place-preserved : goal.loop-place-preserved
loop-place-preserved g c =
    let view = boxed g.L.Line g.T.Talk in
    let rest = map view c.pop.new.self.items in
    let place = c.in-Some.place in
    let before = g.G.Gate.ended c.loop-place.gate in
    let ended = c.part.ensures.ended
    ∙ ap (λ p. before ++ seen g.L.Line g.T.Talk p ∷ []) c.into_inner.ensures in
    let split = ap (map view) c.in-Some.ensures.items
    ∙ map-append view c.pop.new.self.items (place ∷ []) in
    record {
      given = c.part.ensures.given ∙ c.loop-place.invariant.given;
      others = c.part.ensures.others ∙ c.loop-place.invariant.others;
      stopped = c.part.ensures.stopped ∙ c.loop-place.invariant.stopped;
      all = ap (λ l. l ++ reverse rest) ended
          ∙ append_assoc before (view place ∷ []) (reverse rest)
          ∙ ap (λ l. before ++ l) (sym (ap reverse split ∙ reverse_last rest (view place)))
          ∙ c.loop-place.invariant.all;
      serves = λ acts front count s.
          subst (λ e. Serves acts e (front ++ rest) count) (sym ended)
          (serves_last acts before (front ++ rest) (view place) count
          (subst (λ l. Serves acts before l count)
          (ap (λ l. front ++ l) split ∙ sym (append_assoc front rest (view place ∷ [])))
          (c.loop-place.invariant.serves acts front count s)));
    }

pub returns-clause-serves : goal.returns-clause-serves
returns-clause-serves g c acts front count s =
    let view = boxed g.L.Line g.T.Talk in
    let ended = g.G.Gate.ended c.loop-place.gate in
    let none : c.loop-place.places.items ≡ [] = grind (arith, common_steps) in
    subst (λ l. Serves acts ended l count) (append-nil front)
    (subst (λ l. Serves acts ended (front ++ map view l) count) none
    (c.loop-place.invariant.serves acts front count s))
