use Rattle.std.proofs.Common.{refl}
use Rattle.iso_codec.proofs.BitmapWords.{first_bit_is}
use Rattle.iso_codec.proofs.bitmaps.first_bit.Goals as goal

pub returns : goal.returns
returns c = first_bit_is c.args.bits _ c.requires c.ranges.bits.fits refl
