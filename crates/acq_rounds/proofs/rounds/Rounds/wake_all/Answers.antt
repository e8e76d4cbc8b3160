use Rattle.std.proofs.Common.{refl}
use Rattle.acq_rounds.specs.Places.{seen_in}
use Rattle.acq_rounds.proofs.Turning.{turned_same}
use Rattle.acq_rounds.proofs.rounds.Rounds.wake_all.Goals as goal

pub loop-init : goal.loop-init
loop-init g c =
    let here = seen_in g.L.Line g.T.Talk in
    record {
      turned = turned_same (here c.args.self.now) (here c.args.self.now) refl;
      quiet = λ q. q;
      count = refl;
      given = refl;
      others = refl;
      ended = refl;
    }
