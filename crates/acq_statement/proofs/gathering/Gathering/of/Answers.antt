use Rattle.std.proofs.Common.{refl}
use Rattle.acq_statement.proofs.Gathered.{fresh_is}
use Rattle.acq_statement.proofs.gathering.Gathering.of.Goals as goal

pub returns-clause-fresh : goal.returns-clause-fresh
returns-clause-fresh c = λ t.
    fresh_is t _ refl c.new.ensures.items refl c.new-2.ensures.items
