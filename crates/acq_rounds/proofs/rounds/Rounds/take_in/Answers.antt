use Rattle.std.proofs.Common.{◌≡◌, ◌++◌, ◌∙◌, [], ap, length, map, refl, subst, sym}
use Rattle.std.specs.Vec.{with_items}
use Rattle.acq_rounds.specs.Moves.{AllGoOn}
use Rattle.acq_rounds.specs.Places.{boxed, seen_in}
use Rattle.acq_rounds.proofs.Lasting.{serves_as, serves_counted, serves_on}
use Rattle.acq_rounds.proofs.Running.{put_back}
use Rattle.acq_rounds.proofs.Turning.{on_awake}
use Rattle.acq_rounds.proofs.rounds.Rounds.take_in.Goals as goal

pub returns-clause-serves : goal.returns-clause-serves
returns-clause-serves g c acts s =
    let view = boxed g.L.Line g.T.Talk in
    let here = seen_in g.L.Line g.T.Talk in
    let ended = g.G.Gate.ended in
    let self = c.look.new.self in
    let asleep = map view self.asleep.items in
    let items = (with_items self.awake c.read_all.new.places).items in
    let back : items ≡ c.read_all.new.places =
    put_back self.awake.len self.awake.items c.read_all.new.places self.awake.ok.0
    (c.read_all.auto.places ∙ ap length c.as_mut_slice.ensures.value) in
    let on = subst (λ l. AllGoOn (map view l) (map view items)) c.as_mut_slice.ensures.value
    (subst (λ l. AllGoOn (map view c.as_mut_slice.result.now) (map view l)) (sym back)
    c.read_all.ensures) in
    let woken = serves_as acts (ended c.args.gate.now) (ended c.wake_all.new.gate)
    (here c.wake_all.new.self) (here c.wake_all.new.self) c.args.self.now.count
    c.in_ok-wake_all.ensures.ended refl
    (c.in_ok-wake_all.ensures.turned.serves acts (ended c.args.gate.now) c.args.self.now.count s) in
    let heard = c.in_ok-hear.ensures.turned.serves acts (ended c.wake_all.new.gate)
    c.args.self.now.count woken in
    let admitted = c.in_ok-admit.ensures.serves acts
    (serves_counted acts (ended c.wake_all.new.gate) (here c.hear.new.self)
    c.args.self.now.count c.hear.new.self.count
    (c.in_ok-hear.ensures.count ∙ c.in_ok-wake_all.ensures.count) heard) in
    let count = c.admit.new.self.count in
    let looked = c.look.ensures.serves acts count admitted in
    let read = serves_on acts (ended c.look.new.gate) (map view self.awake.items ++ asleep)
    (map view items ++ asleep) count
    (on_awake (map view self.awake.items) (map view items) asleep on) looked in
    serves_counted acts (ended c.clear.new.gate) (map view c.clear.new.places.items ++ asleep)
    count self.count c.look.ensures.count
    (c.clear.ensures.serves acts [] asleep count read)
