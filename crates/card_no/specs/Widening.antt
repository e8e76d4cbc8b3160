-- Ranges of six digits as ranges of eight: the same cards, two digits more at each end.
use Rattle.std.specs.Prelude.{◌≡◌, ℕ, ◌+◌, ◌*◌, true, List, map, option_map}
use Rattle.card_no.specs.Prefix.{six_digits, eight_digits}
use Rattle.card_no.specs.CardNumbers.{is_valid_card, prefix_of_under}
use Rattle.card_no.specs.Ranges.{range_of_prefix}
use Rattle.card_no.specs.declared.range.Range.{Range}

-- from the first to the last number of eight digits that begins as one of the range
abbrev pub widened : Range → Range
widened r = record r { low = r.low * 100; high = r.high * 100 + 99 }

abbrev pub widened_ranges : List Range → List Range
widened_ranges ranges = map widened ranges

-- The range that a valid card has by eight digits of the widened ranges is the one that it has by
-- six digits of the ranges, widened; where it has none there, it has none.
abbrev pub FindsWidened : Type 0
FindsWidened =
    (ranges : List Range) (digits : List ℕ) → is_valid_card digits ≡ true
    → range_of_prefix (widened_ranges ranges) (prefix_of_under eight_digits digits)
    ≡ option_map widened (range_of_prefix ranges (prefix_of_under six_digits digits))
