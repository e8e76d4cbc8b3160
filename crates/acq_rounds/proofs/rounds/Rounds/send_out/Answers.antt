use Rattle.std.proofs.Common.{◌≡◌, ◌++◌, ◌∙◌, [], ap, length, map, subst, sym}
use Rattle.std.specs.Vec.{with_items}
use Rattle.acq_rounds.specs.Moves.{AllGoOn}
use Rattle.acq_rounds.specs.Places.{boxed}
use Rattle.acq_rounds.proofs.Lasting.{serves_on}
use Rattle.acq_rounds.proofs.Running.{put_back}
use Rattle.acq_rounds.proofs.Turning.{on_awake}
use Rattle.acq_rounds.proofs.rounds.Rounds.send_out.Goals as goal

pub returns-clause-serves : goal.returns-clause-serves
returns-clause-serves g c acts count s =
    let view = boxed g.L.Line g.T.Talk in
    let ended = g.G.Gate.ended in
    let up = c.args.self.now.awake in
    let asleep = map view c.args.self.now.asleep.items in
    let items = (with_items up c.write_all.new.places).items in
    let back : items ≡ c.write_all.new.places =
    put_back up.len up.items c.write_all.new.places up.ok.0
    (c.write_all.auto.places ∙ ap length c.as_mut_slice.ensures.value) in
    let on = subst (λ l. AllGoOn (map view l) (map view items)) c.as_mut_slice.ensures.value
    (subst (λ l. AllGoOn (map view c.as_mut_slice.result.now) (map view l)) (sym back)
    c.write_all.ensures) in
    let written = serves_on acts (ended c.args.gate.now) (map view up.items ++ asleep)
    (map view items ++ asleep) count
    (on_awake (map view up.items) (map view items) asleep on) s in
    c.put_to_sleep.ensures.turned.serves acts (ended c.clear.new.gate) count
    (c.clear.ensures.serves acts [] asleep count written)
