use Rattle.std.proofs.Common.{◌≡◌, List, ℕ, length, refl, sym, ap, subst, ◌∙◌, arith}
use Rattle.std.proofs.lemmas.List.{length-set}
use Rattle.std.specs.List.{list_all}
use Rattle.std.specs.Int.{w64, to_be_bytes}
use Rattle.hex.specs.Hex.{encode_upper, upper_digits}
use Rattle.hex.proofs.Pairs.{encode_step, encode_done}
use Rattle.iso_codec.specs.Message.{IsBitmap, is_upper_hex}
use Rattle.iso_codec.proofs.BitmapsOfNumbers.{bitmap_written, bytes_small, upper_case}
use Rattle.iso_codec.proofs.bitmap_digits.digits_of_bits.Goals as goal

pub loop-i-preserved : goal.loop-i-preserved
loop-i-preserved c =
    let bytes = c.to_be_bytes-bytes.result in
    let digits = c.loop-i.digits in
    let i = c.loop-i.i in
    let eight : length bytes ≡ 8 = ap length c.to_be_bytes-bytes.ensures in
    let size = c.loop-i.invariant.size in
    record {
      size = length-set _ _ _ ∙ (length-set digits _ _ ∙ size);
      written = encode_step upper_digits bytes digits i _ _ (omega arith) (omega arith) refl refl
          c.loop-i.invariant.written;
    }

pub returns-clause-digits : goal.returns-clause-digits
returns-clause-digits c =
    let bytes = c.to_be_bytes-bytes.result in
    let eight : length bytes ≡ 8 = ap length c.to_be_bytes-bytes.ensures in
    let whole : c.loop-i.digits ≡ encode_upper (to_be_bytes w64 c.args.bits) =
    encode_done upper_digits bytes c.loop-i.digits c.loop-i.i (omega (arith, eight))
    (omega (arith, eight, c.loop-i.invariant.size))
    c.loop-i.invariant.written
    ∙ ap encode_upper c.to_be_bytes-bytes.ensures in
    subst (λ (x : List ℕ). IsBitmap x c.args.bits) (sym whole)
    (bitmap_written c.args.bits c.ranges.bits.fits (bytes_small c.args.bits))

pub returns-clause-capitals : goal.returns-clause-capitals
returns-clause-capitals c =
    let bytes = c.to_be_bytes-bytes.result in
    let eight : length bytes ≡ 8 = ap length c.to_be_bytes-bytes.ensures in
    let whole : c.loop-i.digits ≡ encode_upper (to_be_bytes w64 c.args.bits) =
    encode_done upper_digits bytes c.loop-i.digits c.loop-i.i (omega (arith, eight))
    (omega (arith, eight, c.loop-i.invariant.size))
    c.loop-i.invariant.written
    ∙ ap encode_upper c.to_be_bytes-bytes.ensures in
    ap (list_all is_upper_hex) whole ∙ upper_case (to_be_bytes w64 c.args.bits)
    (bytes_small c.args.bits)
