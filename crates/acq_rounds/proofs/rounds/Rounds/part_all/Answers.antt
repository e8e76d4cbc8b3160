use Rattle.std.proofs.Common.{[], map}
use Rattle.acq_rounds.specs.Places.{boxed}
use Rattle.acq_rounds.proofs.rounds.Rounds.part_all.Goals as goal

pub returns-clause-serves : goal.returns-clause-serves
returns-clause-serves g c acts count s =
    let view = boxed g.L.Line g.T.Talk in
    c.part_each-2.ensures.serves acts [] count
    (c.part_each.ensures.serves acts (map view c.args.self.now.awake.items) count s)
