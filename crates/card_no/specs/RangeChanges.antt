-- What a change of a list of ranges results in, and the number of each fault (own profile).
use Rattle.std.specs.Prelude.{ℕ, List, Option, Some, None, Result, Ok, Err, if◌then◌else◌}
use Rattle.std.specs.Prelude.{option_map}
use Rattle.card_no.specs.declared.range.Range.{Range}
use Rattle.card_no.specs.declared.range_fault.RangeFault.{RangeFault}
use Rattle.card_no.specs.declared.range_fault.RangeFault.TheVariants.{Memory, BadRange, Overlap}
use Rattle.card_no.specs.declared.range_fault.RangeFault.TheVariants.{NoSuchRange, BadLine}
use Rattle.card_no.specs.Ranges.{is_valid_range, overlapped_by, with_range, has_range}

-- Why a range can't be added: first that its values are bad, then that it overlaps the range of
-- least low.
abbrev pub add_fault : List Range → Range → Option RangeFault
add_fault ranges r =
    if is_valid_range r then option_map Overlap (overlapped_by r ranges) else Some BadRange

-- Why a range can't be removed: none has just these ends.
abbrev pub remove_fault : List Range → ℕ → ℕ → Option RangeFault
remove_fault ranges low high = if has_range ranges low high then None else Some NoSuchRange

-- the list, unless there is a fault
abbrev pub unless : Option RangeFault → List Range → Result (List Range) RangeFault
unless None ranges = Ok ranges
unless (Some fault) ranges = Err fault

-- the list with one more range, or the fault
abbrev pub added : List Range → Range → Result (List Range) RangeFault
added ranges r = unless (add_fault ranges r) (with_range ranges r)

-- the number of a fault
abbrev pub fault_number : RangeFault → ℕ
fault_number Memory = 1
fault_number BadRange = 20
fault_number (Overlap r) = 21
fault_number NoSuchRange = 22
fault_number (BadLine n) = 23
