use Rattle.std.proofs.Common.{◌≡◌, ◌++◌, ◌∙◌, [], ap, append-nil, length, map, refl, sym}
use Rattle.std.specs.Vec.{with_items}
use Rattle.acq_rounds.specs.Places.{boxed}
use Rattle.acq_rounds.proofs.Lasting.{serves_as}
use Rattle.acq_rounds.proofs.Running.{put_back}
use Rattle.acq_rounds.proofs.rounds.Rounds.look.Goals as goal

pub returns-then-looks-clause-serves : goal.returns-then-looks-clause-serves
returns-then-looks-clause-serves g c acts count s =
    let view = boxed g.L.Line g.T.Talk in
    let ended = g.G.Gate.ended in
    let up = c.args.self.now.awake in
    let down = c.args.self.now.asleep in
    let awake = (with_items up c.look_at.new.places).items in
    let awake_back : awake ≡ c.look_at.new.places =
    put_back up.len up.items c.look_at.new.places up.ok.0
    (c.look_at.auto.places ∙ ap length c.as_mut_slice.ensures.value) in
    let awake_same : map view awake ≡ map view up.items =
    ap (map view) awake_back ∙ c.look_at.ensures.same
    ∙ ap (map view) c.as_mut_slice.ensures.value in
    let asleep = (with_items down c.look_at-then-looks.new.places).items in
    let asleep_back : asleep ≡ c.look_at-then-looks.new.places =
    put_back down.len down.items c.look_at-then-looks.new.places down.ok.0
    (c.look_at-then-looks.auto.places ∙ ap length c.as_mut_slice-then-looks.ensures.value) in
    let asleep_same : map view asleep ≡ map view down.items =
    ap (map view) asleep_back ∙ c.look_at-then-looks.ensures.same
    ∙ ap (map view) c.as_mut_slice-then-looks.ensures.value in
    let front = map view awake in
    let left = map view c.clear.new.places.items in
    let looked = c.look_at-then-looks.new.gate in
    serves_as acts (ended c.clear.new.gate) (ended c.clear.new.gate) (front ++ (left ++ []))
    (front ++ left) count refl (ap (λ l. front ++ l) (sym (append-nil left)))
    (c.clear.ensures.serves acts front [] count
    (serves_as acts (ended c.args.gate.now) (ended looked) (map view up.items ++ map view down.items)
    (front ++ (map view asleep ++ [])) count
    (c.look_at-then-looks.ensures.ended ∙ c.look_at.ensures.ended ∙ c.if-looks.ensures.ended)
    (ap (λ l. l ++ (map view asleep ++ [])) awake_same
    ∙ ap (λ l. map view up.items ++ l) (append-nil (map view asleep) ∙ asleep_same)) s))
