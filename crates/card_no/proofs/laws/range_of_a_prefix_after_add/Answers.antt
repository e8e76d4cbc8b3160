use Rattle.card_no.proofs.RangeAfterChange.{prefix-after-add}
use Rattle.card_no.proofs.laws.range_of_a_prefix_after_add.Goals as goal

pub returns : goal.returns
returns c = λ ranges r prefix free. prefix-after-add ranges r prefix free
