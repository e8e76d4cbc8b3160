use Rattle.std.proofs.Common.{add-one, arith}
use Rattle.std.proofs.Math.Nat.{pow-suc}
use Rattle.card_no.proofs.DigitPlaces.{digit_at, digits_value-take, number_fits}
use Rattle.card_no.proofs.digits.number.Goals as goal

pub overflow_mul-number : goal.overflow_mul-number
overflow_mul-number c =
    let fits = number_fits c.loop-b.number c.loop-b.b-index c.loop-b.invariant.bound (omega arith)
    in
    omega (arith, fits)

pub overflow_add-number : goal.overflow_add-number
overflow_add-number c =
    let fits = number_fits c.loop-b.number c.loop-b.b-index c.loop-b.invariant.bound (omega arith)
    in
    let digit = digit_at c.args.digits.now c.loop-b.b-index 0 c.requires.each c.loop-b-test.true in
    omega (arith, fits, digit.1, c.from.ensures)

pub loop-b-preserved : goal.loop-b-preserved
loop-b-preserved c =
    let digits = c.args.digits.now in
    let i = c.loop-b.b-index in
    let digit = digit_at digits i 0 c.requires.each c.loop-b-test.true in
    let next = digits_value-take digits i c.requires.each c.loop-b-test.true in
    record {
      number_is = omega (arith, next, c.loop-b.invariant.number_is, c.from.ensures);
      bound = rw add-one
          (omega (arith, digit.1, pow-suc 10 i, c.loop-b.invariant.bound, c.from.ensures));
    }
