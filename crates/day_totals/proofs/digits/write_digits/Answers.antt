use Rattle.std.proofs.Common.{◌≡◌, refl, arith}
use Rattle.day_totals.specs.Digits.{zero_padded}
use Rattle.day_totals.proofs.ZeroPadded.{zero_padded-step}
use Rattle.day_totals.proofs.digits.write_digits.Goals as goal

pub loop-place-preserved : goal.loop-place-preserved
loop-place-preserved c = zero_padded-step c.loop-place.place c.loop-place.number _ c.loop-place.text
    _ (omega arith)
    (omega arith) refl c.loop-place.invariant

pub returns : goal.returns
unfolding zero_padded
returns c =
    let done : c.loop-place.place ≡ 0 = omega arith in
    rw done at c.loop-place.invariant
