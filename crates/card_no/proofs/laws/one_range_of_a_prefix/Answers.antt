use Rattle.std.proofs.Common.{refl}
use Rattle.card_no.specs.Ranges.{range_of_prefix}
use Rattle.card_no.proofs.OneRangeOfPrefix.{range_is_one}
use Rattle.card_no.proofs.laws.one_range_of_a_prefix.Goals as goal

pub returns : goal.returns
returns c = λ ranges prefix valid. range_is_one ranges prefix (range_of_prefix ranges prefix) valid
    refl
