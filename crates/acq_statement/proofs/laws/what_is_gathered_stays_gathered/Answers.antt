use Rattle.acq_statement.proofs.Gathered.{gathered_later}
use Rattle.acq_statement.proofs.laws.what_is_gathered_stays_gathered.Goals as goal

pub returns : goal.returns
returns c = λ t events gathering is. gathered_later t events gathering is
