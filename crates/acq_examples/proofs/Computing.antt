-- What an answer unfolds to compute the definitions on literals.
use Rattle.std.specs.Prelude.{⊤}
use Rattle.hex.specs.Hex.{decode_pairs, encode_with}
use Rattle.iso_codec.specs.Table.{format_of}
use Rattle.iso_codec.specs.Content.{has_class}
use Rattle.iso_codec.specs.Message.{named}
use Rattle.iso_codec.specs.Reading.{kind_at, bitmap_at, bitmaps_at, known_of, content_by}
use Rattle.iso_codec.specs.Reading.{elements_at, reading_of, bitmaps_of, digits_of_bitmaps}
use Rattle.iso_codec.specs.Reading.{spelling}
use Rattle.day_totals.specs.Day.{date_from_month, year_day_from, date_of, resolved}
use Rattle.day_totals.specs.Digits.{zero_padded}
use Rattle.day_totals.specs.Totals.{totals_of}

unfoldable pub on_literals : ⊤
unfolding decode_pairs encode_with format_of has_class named kind_at bitmap_at bitmaps_at known_of
    content_by elements_at
    reading_of bitmaps_of digits_of_bitmaps spelling date_from_month year_day_from date_of resolved
    zero_padded
    totals_of
on_literals = tt
