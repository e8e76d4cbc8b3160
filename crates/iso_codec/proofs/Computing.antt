-- What an answer unfolds to compute the definitions on literals.
use Rattle.std.specs.Prelude.{⊤}
use Rattle.hex.specs.Hex.{decode_pairs, encode_with}
use Rattle.iso_codec.specs.Table.{format_of}
use Rattle.iso_codec.specs.Content.{has_class}
use Rattle.iso_codec.specs.Message.{named}
use Rattle.iso_codec.specs.Reading.{kind_at, bitmap_at, bitmaps_at, known_of, content_by}
use Rattle.iso_codec.specs.Reading.{elements_at, reading_of, bitmaps_of, digits_of_bitmaps}
use Rattle.iso_codec.specs.Reading.{spelling}
use Rattle.iso_codec.specs.FaultPlaces.{behind, standing_from, element_place}

unfoldable pub on_literals : ⊤
unfolding decode_pairs encode_with format_of has_class named kind_at bitmap_at bitmaps_at known_of
    content_by elements_at reading_of bitmaps_of digits_of_bitmaps spelling behind standing_from
    element_place
on_literals = tt
