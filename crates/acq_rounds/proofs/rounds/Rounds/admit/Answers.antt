use Rattle.std.proofs.Common.{◌≡◌, ◌++◌, ◌+◌, ◌∷◌, [], ◌∙◌, ap, arith, map, refl}
use Rattle.std.proofs.lemmas.Grind.{common_steps}
use Rattle.std.proofs.lemmas.List.{map-append}
use Rattle.acq_rounds.specs.Places.{boxed, seen, seen_in}
use Rattle.acq_rounds.proofs.Lasting.{serves_as, serves_last}
use Rattle.acq_rounds.proofs.Moving.{admits}
use Rattle.acq_rounds.proofs.Turning.{came_awake}
use Rattle.acq_rounds.proofs.rounds.Rounds.admit.Goals as goal

pub returns-in-Ok-clause-serves : goal.returns-in-Ok-clause-serves
returns-in-Ok-clause-serves g c acts s =
    let see = seen g.L.Line g.T.Talk in
    let view = boxed g.L.Line g.T.Talk in
    let here = seen_in g.L.Line g.T.Talk c.args.self.now in
    let awake = map view c.args.self.now.awake.items in
    let asleep = map view c.args.self.now.asleep.items in
    let count = c.args.self.now.count in
    let x = see c.new-place.result in
    let put : c.push.new.self.items ≡ c.args.self.now.awake.items ++ c.in-Ok.place ∷ [] =
    grind (arith, common_steps) in
    let now : map view c.push.new.self.items ≡ awake ++ (x ∷ []) =
    ap (map view) put ∙ map-append view c.args.self.now.awake.items (c.in-Ok.place ∷ [])
    ∙ ap (λ p. awake ++ (see p ∷ [])) c.in-Ok.ensures.ok in
    let one = admits acts (g.G.Gate.ended c.args.gate.now) here (here ++ x ∷ []) count
    (g.L.Line.received c.in-Some.line) (g.T.Talk.held c.in-Some.talk)
    (g.L.Line.sent c.in-Some.line) (g.T.Talk.unsent c.in-Some.talk) x c.new-place.ensures
    c.in-Some.ensures.received c.in-Some.ensures.held c.in-Some.ensures.sent
    c.in-Some.ensures.unsent refl s in
    serves_as acts (g.G.Gate.ended c.args.gate.now) (g.G.Gate.ended c.next.new.self)
    ((awake ++ x ∷ []) ++ asleep) (map view c.push.new.self.items ++ asleep) (count + 1)
    c.in-Some.ensures.ended (ap (λ l. l ++ asleep) now)
    ((came_awake awake asleep x).serves acts (g.G.Gate.ended c.args.gate.now) (count + 1) one)

pub returns-in-Err-clause-serves : goal.returns-in-Err-clause-serves
returns-in-Err-clause-serves g c acts s =
    let see = seen g.L.Line g.T.Talk in
    let view = boxed g.L.Line g.T.Talk in
    let here = seen_in g.L.Line g.T.Talk c.args.self.now in
    let asleep = map view c.args.self.now.asleep.items in
    let ended = g.G.Gate.ended in
    let count = c.args.self.now.count in
    let x = see c.new-place.result in
    let one = admits acts (ended c.args.gate.now) here (here ++ x ∷ []) count
    (g.L.Line.received c.in-Some.line) (g.T.Talk.held c.in-Some.talk)
    (g.L.Line.sent c.in-Some.line) (g.T.Talk.unsent c.in-Some.talk) x c.new-place.ensures
    c.in-Some.ensures.received c.in-Some.ensures.held c.in-Some.ensures.sent
    c.in-Some.ensures.unsent refl s in
    serves_as acts (ended c.args.gate.now ++ x ∷ []) (ended c.part.new.self) here
    (map view c.reserve.new.self.items ++ asleep) (count + 1)
    (c.part.ensures.ended ∙ ap (λ l. l ++ see c.in-Err.failed.value ∷ []) c.in-Some.ensures.ended
    ∙ ap (λ p. ended c.args.gate.now ++ see p ∷ []) c.in-Err.ensures.value_returned)
    (ap (λ l. map view l ++ asleep) c.reserve.ensures.items)
    (serves_last acts (ended c.args.gate.now) here x (count + 1) one)
