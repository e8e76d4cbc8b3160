use Rattle.std.proofs.Common.{◌*◌, ◌+◌, get_or, ◌∙◌, arith}
use Rattle.std.proofs.lemmas.List.{length-set}
use Rattle.hex.proofs.Pairs.{decode_step, decode_done}
use Rattle.hex.proofs.HexLemmas.{decode_of-even}
use Rattle.iso_codec.proofs.BitmapDigits.{pair_value-ok}
use Rattle.iso_codec.proofs.bitmap_digits.bits_of_digits.Goals as goal

pub loop-i-preserved : goal.loop-i-preserved
loop-i-preserved c =
    let digits = c.args.digits.now in
    let bytes = c.loop-i.bytes in
    let i = c.loop-i.i in
    let size = c.loop-i.invariant.size in
    let pair = pair_value-ok (get_or digits (2 * i) 0) (get_or digits (2 * i + 1) 0)
    (2 * i) _ _ c.value.ensures
    c.value-in-loop-i.ensures in
    record {
      size = length-set bytes _ _ ∙ size;
      read = decode_step digits bytes i _ (omega (arith, c.requires.size))
          (omega arith) pair c.loop-i.invariant.read;
    }

pub returns : goal.returns
returns c =
    let digits = c.args.digits.now in
    let bytes = c.loop-i.bytes in
    let size = c.loop-i.invariant.size in
    record {
      bytes = bytes;
      size = c.requires.size;
      decoded = decode_of-even digits (omega (arith, c.requires.size))
          ∙ decode_done digits bytes c.loop-i.i (omega arith) (omega (arith, c.requires.size))
          c.loop-i.invariant.read;
      value = c.from_be_bytes.ensures;
    }
