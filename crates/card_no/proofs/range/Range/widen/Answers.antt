use Rattle.std.proofs.Common.{rules}
use Rattle.card_no.proofs.range.Range.widen.Goals as goal

pub returns-clause-value : goal.returns-clause-value
returns-clause-value c = search rules
