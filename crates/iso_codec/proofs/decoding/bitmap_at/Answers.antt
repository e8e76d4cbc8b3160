use Rattle.std.proofs.Common.{sym, ap, ◌∙◌}
use Rattle.std.specs.List.{list_all}
use Rattle.hex.specs.Hex.{is_hex_digit}
use Rattle.iso_codec.proofs.BitmapDigits.{all_hexadecimal}
use Rattle.iso_codec.proofs.decoding.bitmap_at.Goals as goal

pub returns-then-not-all_hex-clause-fault : goal.returns-then-not-all_hex-clause-fault
returns-then-not-all_hex-clause-fault c = (
  c.if-rest-lt16.false,
  ap (list_all is_hex_digit) (sym c.split_at.ensures.front)
      ∙ sym (all_hexadecimal c.split_at.result.0.now)
      ∙ sym c.all_hex.ensures ∙ c.if-not-all_hex.true,
)
