use Rattle.std.proofs.Common.{ℕ, ◌^◌, ◌<◌, ◌≤◌, add-one, arith}
use Rattle.std.proofs.Math.Nat.{pow-suc, pow-le-pow_right}
use Rattle.card_no.proofs.DigitPlaces.{digit_at, digits_value-take}
use Rattle.acq_message.proofs.digits.digits_value.Goals as goal

-- a number of fewer than sixteen digits has room for a digit more
number_fits : (n i : ℕ) → n < 10 ^ i → i < 16 → n < 1_000_000_000_000_000
number_fits n i h lt =
    let at : i ≤ 15 = omega arith in
    let le : 10 ^ i ≤ 10 ^ 15 = pow-le-pow_right {n = 10} (omega arith) {i = i} {j = 15} at in
    omega arith

pub overflow_mul-number : goal.overflow_mul-number
overflow_mul-number c =
    let fits = number_fits c.loop-b.number c.loop-b.b-index c.loop-b.invariant.bound (omega arith)
    in
    omega (arith, fits)

pub overflow_add-number : goal.overflow_add-number
overflow_add-number c =
    let fits = number_fits c.loop-b.number c.loop-b.b-index c.loop-b.invariant.bound (omega arith)
    in
    let digit = digit_at c.args.digits.now c.loop-b.b-index 0 c.requires.each c.loop-b-test.true in
    omega (arith, fits, digit.1, c.from.ensures)

pub loop-b-preserved : goal.loop-b-preserved
loop-b-preserved c =
    let digits = c.args.digits.now in
    let i = c.loop-b.b-index in
    let digit = digit_at digits i 0 c.requires.each c.loop-b-test.true in
    let next = digits_value-take digits i c.requires.each c.loop-b-test.true in
    record {
      number_is = omega (arith, next, c.loop-b.invariant.number_is, c.from.ensures);
      bound = rw add-one
          (omega (arith, digit.1, pow-suc 10 i, c.loop-b.invariant.bound, c.from.ensures));
    }
