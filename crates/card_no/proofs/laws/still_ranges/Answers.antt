use Rattle.card_no.proofs.RangeAfterChange.{added-ranges}
use Rattle.card_no.proofs.OneRangeLess.{ranges_without}
use Rattle.card_no.proofs.laws.still_ranges.Goals as goal

pub returns-clause-added : goal.returns-clause-added
returns-clause-added c = λ ranges r valid free. added-ranges ranges r valid free

pub returns-clause-removed : goal.returns-clause-removed
returns-clause-removed c = λ ranges low high valid. ranges_without ranges low high valid
