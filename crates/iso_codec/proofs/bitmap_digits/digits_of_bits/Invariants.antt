use Rattle.std.proofs.Common.{◌≡◌, ◌*◌, ◌++◌, take, drop, length}
use Rattle.hex.specs.Hex.{encode_upper}
use Rattle.iso_codec.proofs.bitmap_digits.digits_of_bits.Given as goal

abbrev pub invariant-loop-i : goal.invariant-loop-i
invariant-loop-i l = record {
  size : length l.digits ≡ 16;
  written : take (2 * l.i) l.digits ++ encode_upper (drop l.i l.bytes) ≡ encode_upper l.bytes;
}
