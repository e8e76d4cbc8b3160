use Rattle.iso_codec.proofs.BitmapWords.{without_bit_is}
use Rattle.iso_codec.proofs.bitmaps.without_bit.Goals as goal

pub returns : goal.returns
returns c = λ k lo hi. without_bit_is c.args.bits c.args.number k c.requires.low c.requires.high lo
    hi
