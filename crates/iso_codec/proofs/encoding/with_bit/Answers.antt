use Rattle.iso_codec.proofs.BitmapsOfNumbers.{bit_more}
use Rattle.iso_codec.proofs.encoding.with_bit.Goals as goal

pub returns : goal.returns
returns c = λ k lo hi. bit_more c.args.bits c.args.number k c.requires.low c.requires.high lo hi
