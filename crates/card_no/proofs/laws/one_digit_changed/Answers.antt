use Rattle.card_no.proofs.OneDigitChanged.{digit-changed}
use Rattle.card_no.proofs.laws.one_digit_changed.Goals as goal

pub returns : goal.returns
returns c = λ digits i digit valid within other. digit-changed digits i digit valid within other
