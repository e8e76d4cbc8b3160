use Rattle.card_no.proofs.WidenedRanges.{card_finds_widened}
use Rattle.card_no.proofs.laws.range_of_a_card_after_widening.Goals as goal

pub returns : goal.returns
returns c = card_finds_widened
