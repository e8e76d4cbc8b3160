use Rattle.std.proofs.Common.{◌≡◌, ◌++◌, [], ◌∷◌, arith}
use Rattle.std.proofs.lemmas.Grind.{common_steps}
use Rattle.acq_rounds.proofs.taking.take_next.Goals as goal

pub returns-clause-took : goal.returns-clause-took
returns-clause-took g c began n h w =
    let put : c.push.new.self.items ≡ c.args.said.now.items ++ c.in_ok-next.next ∷ [] =
    grind (arith, common_steps) in
    record {
      last = c.in_ok-next.next;
      behind = put;
      took = c.in_ok-next.ensures.took began n h w;
    }
