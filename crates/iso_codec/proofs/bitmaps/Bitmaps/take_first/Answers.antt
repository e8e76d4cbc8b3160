use Rattle.std.proofs.Common.{◌≡◌, arith}
use Rattle.iso_codec.proofs.BitmapWords.{primary_first, primary_unset, secondary_first, none_named}
use Rattle.iso_codec.proofs.bitmaps.Bitmaps.take_first.Goals as goal

pub returns-then-primary-ne0-clause-first : goal.returns-then-primary-ne0-clause-first
returns-then-primary-ne0-clause-first c =
    primary_first c.args.self.now.primary c.without_bit-self.result c.args.self.now.secondary
    c.first_bit-number.result
    c.requires c.first_bit-number.ensures c.without_bit-self.ensures

pub returns-then-primary-ne0-clause-unset : goal.returns-then-primary-ne0-clause-unset
returns-then-primary-ne0-clause-unset c =
    primary_unset c.args.self.now.primary c.without_bit-self.result c.first_bit-number.result
    c.requires
    c.without_bit-self.ensures

pub returns-then-secondary-ne0-clause-first : goal.returns-then-secondary-ne0-clause-first
returns-then-secondary-ne0-clause-first c =
    let none : c.args.self.now.primary ≡ 0 = omega (arith, c.if-primary-ne0.false) in
    secondary_first c.args.self.now.primary c.args.self.now.secondary
    c.without_bit-self-then-secondary-ne0.result c.first_bit-number-then-secondary-ne0.result none
    c.first_bit-number-then-secondary-ne0.ensures c.without_bit-self-then-secondary-ne0.ensures

pub returns-clause-first : goal.returns-clause-first
returns-clause-first c =
    none_named c.args.self.now.primary c.args.self.now.secondary
    (omega (arith, c.if-primary-ne0.false))
    (omega (arith, c.if-secondary-ne0.false))
