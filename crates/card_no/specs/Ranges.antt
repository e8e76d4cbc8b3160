-- Issuers' ranges of card prefixes (own profile): which values a range may have, which prefixes it
-- holds, and lists of ranges. A range is a plain record, whose values may be any.
use Rattle.std.specs.Prelude.{◌≡◌, ◌≤◌, ℕ, ◌==◌, nat_le, nat_lt, Bool, true, false, ◌&&◌, not, List}
use Rattle.std.specs.Prelude.{[], ◌∷◌, length, filter, find, Option, Some, None, Contains}
use Rattle.std.specs.Prelude.{if◌then◌else◌}
use Rattle.std.specs.List.{list_all, list_any}
use Rattle.std.specs.Char.{is_ascii_digit}
use Rattle.card_no.specs.Prefix.{PrefixProfile, in_force}
use Rattle.card_no.specs.declared.range.Range.{Range}

-- how many days a hold lasts
abbrev pub least_hold_days : ℕ
least_hold_days = 1

abbrev pub greatest_hold_days : ℕ
greatest_hold_days = 31

-- 1 to 11 digits
abbrev pub is_issuer : List ℕ → Bool
is_issuer text = nat_le 1 (length text) && nat_le (length text) 11 && list_all is_ascii_digit text

-- low is not above high, high is a prefix, the issuer is 1 to 11 digits, a hold lasts as it may
abbrev pub is_valid_range_under : PrefixProfile → Range → Bool
is_valid_range_under profile r =
    nat_le r.low r.high && nat_le r.high profile.greatest && is_issuer r.issuer
    && nat_le least_hold_days r.hold_days && nat_le r.hold_days greatest_hold_days

abbrev pub is_valid_range : Range → Bool
is_valid_range = is_valid_range_under in_force

-- both ends are included
abbrev pub holds_prefix : ℕ → Range → Bool
holds_prefix prefix r = nat_le r.low prefix && nat_le prefix r.high

-- some prefix is in both
abbrev pub overlaps : Range → Range → Bool
overlaps a b = nat_le a.low b.high && nat_le b.low a.high

-- these are the range's ends
abbrev pub has_ends : ℕ → ℕ → Range → Bool
has_ends low high r = (r.low == low) && (r.high == high)

-- ---- lists of ranges

-- a range ends before another begins
abbrev pub is_before : Range → Range → Bool
is_before a b = nat_lt a.high b.low

-- each range ends before every later one begins: they are in order of low, and no two overlap
abbrev pub are_apart : List Range → Bool
are_apart [] = true
are_apart (r ∷ later) = list_all (is_before r) later && are_apart later

-- what a list of ranges is
abbrev pub are_ranges : List Range → Bool
are_ranges ranges = list_all is_valid_range ranges && are_apart ranges

-- the range that holds a prefix
abbrev pub range_of_prefix : List Range → ℕ → Option Range
range_of_prefix ranges prefix = find (holds_prefix prefix) ranges

-- The same as a relation: the one range with low ≤ prefix ≤ high, or none.
abbrev pub IsRangeOf : List Range → ℕ → Option Range → Type 0
IsRangeOf ranges prefix None = list_any (holds_prefix prefix) ranges ≡ false
IsRangeOf ranges prefix (Some r) =
    Contains ranges r × (holds_prefix prefix r ≡ true)
    × ((s : Range) → Contains ranges s → holds_prefix prefix s ≡ true → s ≡ r)

-- a range with these ends, of which nothing else is asked
abbrev pub between : ℕ → ℕ → Range
between low high = record { low = low; high = high; issuer = []; hold_days = 0 }

-- the first range, in order of low, that overlaps one
abbrev pub overlapped_by : Range → List Range → Option Range
overlapped_by r ranges = find (overlaps r) ranges

-- The same as a relation: it is in the list and overlaps, and no other that does has a lesser low.
abbrev pub IsLeastOverlap : List Range → Range → Range → Type 0
IsLeastOverlap ranges r s =
    Contains ranges s × (overlaps r s ≡ true)
    × ((t : Range) → Contains ranges t → overlaps r t ≡ true → s.low ≤ t.low)

-- the list with one more range, in order of low
abbrev pub with_range : List Range → Range → List Range
with_range [] r = r ∷ []
with_range (s ∷ later) r = if nat_lt s.low r.low then s ∷ with_range later r else r ∷ s ∷ later

-- a range with just these ends is in the list
abbrev pub has_range : List Range → ℕ → ℕ → Bool
has_range ranges low high = list_any (has_ends low high) ranges

-- the list without the range with these ends
abbrev pub without_range : List Range → ℕ → ℕ → List Range
without_range ranges low high = filter (λ r. not (has_ends low high r)) ranges

-- a range that was found, but for the one with these ends
abbrev pub unless_ends : ℕ → ℕ → Option Range → Option Range
unless_ends low high None = None
unless_ends low high (Some r) = if has_ends low high r then None else Some r
