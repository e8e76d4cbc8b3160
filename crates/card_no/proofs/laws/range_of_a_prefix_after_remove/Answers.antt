use Rattle.card_no.proofs.RangeAfterChange.{prefix-after-remove}
use Rattle.card_no.proofs.laws.range_of_a_prefix_after_remove.Goals as goal

pub returns : goal.returns
returns c = λ ranges low high prefix valid. prefix-after-remove ranges low high prefix valid
