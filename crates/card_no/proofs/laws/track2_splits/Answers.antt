use Rattle.card_no.proofs.Track2Splits.{splits-from, splits-to}
use Rattle.card_no.proofs.laws.track2_splits.Goals as goal

pub returns : goal.returns
returns c = λ text number after. (splits-from text number after, splits-to text number after)
