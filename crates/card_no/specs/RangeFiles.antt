-- Range list files (own profile): CSV as the crate `csv` reads it, with no header line, a record of
-- four fields for each range.
use Rattle.std.specs.Prelude.{◌≡◌, ℕ, ◌+◌, ◌-◌, ◌≤◌, nat_le, Bool, ◌&&◌, List, [], ◌∷◌}
use Rattle.std.specs.Prelude.{length, take, Option, Some, None, Result, Ok, Err, IsOk, ◌⊎◌}
use Rattle.std.specs.Prelude.{if◌then◌else◌}
use Rattle.std.specs.List.{list_all}
use Rattle.std.specs.Char.{is_ascii_digit}
use Rattle.std.specs.Str.Parse.{digits_value}
use Rattle.csv.specs.Reading.{default_config, records, strip_bom}
use Rattle.card_no.specs.Prefix.{is_prefix_text}
use Rattle.card_no.specs.Ranges.{is_issuer}
use Rattle.card_no.specs.RangeChanges.{added}
use Rattle.card_no.specs.declared.range.Range.{Range}
use Rattle.card_no.specs.declared.range_fault.RangeFault.{RangeFault}
use Rattle.card_no.specs.declared.range_fault.RangeFault.TheVariants.{Memory, BadLine}

-- one or two digits
abbrev pub is_days_text : List ℕ → Bool
is_days_text text = nat_le 1 (length text) && nat_le (length text) 2 && list_all is_ascii_digit text

-- the four fields are in their form
abbrev pub are_range_texts : List ℕ → List ℕ → List ℕ → List ℕ → Bool
are_range_texts low high issuer days =
    is_prefix_text low && is_prefix_text high && is_issuer issuer && is_days_text days

-- the range that a record spells, where it has four fields in their form: low, high, issuer, hold
-- days
abbrev pub range_of_fields : List (List ℕ) → Option Range
range_of_fields (low ∷ high ∷ issuer ∷ days ∷ []) =
    if are_range_texts low high issuer days
    then Some (record {
      low = digits_value 10 low;
      high = digits_value 10 high;
      issuer = issuer;
      hold_days = digits_value 10 days;
    })
    else None
range_of_fields _ = None

-- the list with the range that record n of the file spells, if it spells one
abbrev pub with_range_of : ℕ → List Range → Option Range → Result (List Range) RangeFault
with_range_of n ranges None = Err (BadLine n)
with_range_of n ranges (Some r) = added ranges r

-- the list with one more record, record n of the file
abbrev pub with_record : ℕ → List Range → List (List ℕ) → Result (List Range) RangeFault
with_record n ranges fields = with_range_of n ranges (range_of_fields fields)

-- and then, unless there was a fault
infixl 10 ◌>>=◌
abbrev pub ◌>>=◌ : {A B : Type 0}
    → Result A RangeFault → (A → Result B RangeFault) → Result B RangeFault
(Ok x) >>= f = f x
(Err e) >>= f = Err e

-- the list with these records, the first of which is record n of the file, or the fault of the
-- first record refused
abbrev pub with_records : ℕ → List Range → List (List (List ℕ)) → Result (List Range) RangeFault
with_records n ranges [] = Ok ranges
with_records n ranges (fields ∷ later) =
    with_record n ranges fields >>= (λ more. with_records (n + 1) more later)

-- the records of a text; a byte order mark at its start is no part of them
abbrev pub records_of : List ℕ → List (List (List ℕ))
records_of text = records default_config (strip_bom text)

-- The list that a text reads as, or the fault of its first record refused.
abbrev pub ranges_of_text : List ℕ → Result (List Range) RangeFault
ranges_of_text text = with_records 1 [] (records_of text)

-- Record n could not be had: those before it were read, and none of them is refused.
abbrev pub StopsBefore : ℕ → List ℕ → Type 0
StopsBefore n text =
    (1 ≤ n) × (n ≤ length (records_of text) + 1)
    × IsOk (with_records 1 [] (take (n - 1) (records_of text)))

-- What a text in memory results in: its list, or the fault of its first record refused; or memory
-- ran out.
abbrev pub ReadsText : List ℕ → Result (List Range) RangeFault → Type 0
ReadsText text result = (result ≡ ranges_of_text text) ⊎ (result ≡ Err Memory)

-- The number of a record that could not be had.
abbrev pub MissesRecord : List ℕ → Result (List Range) RangeFault → Type 0
MissesRecord text result = (n : ℕ) × (result ≡ Err (BadLine n)) × StopsBefore n text

-- What a reader of this text results in: what the text does in memory; or, where a read failed, the
-- number of the record that could not be had.
abbrev pub ReadsRanges : List ℕ → Result (List Range) RangeFault → Type 0
ReadsRanges text result = ReadsText text result ⊎ MissesRecord text result
