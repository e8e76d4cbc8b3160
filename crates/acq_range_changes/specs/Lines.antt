-- The lines of such events: CSV, a record of six fields for each. Fields that a line doesn't use
-- are empty.
use Rattle.std.specs.Prelude.{ℕ, List, [], ◌∷◌, codes}
use Rattle.std.specs.Fmt.{decimal}
use Rattle.card_no.specs.declared.range.Range.{Range}
use Rattle.day_totals.specs.Digits.{zero_padded}
use Rattle.acq_core.specs.declared.event.Event.{Event}
use Rattle.acq_core.specs.declared.event.Event.TheVariants.{AddRange, DropRange}
use Rattle.acq_reports.specs.Marks.{csv_line}

-- the ends are prefixes of eight digits
abbrev pub add_line : Range → List ℕ
add_line r =
    csv_line (codes "addrange" ∷ zero_padded 8 r.low ∷ zero_padded 8 r.high ∷ r.issuer
    ∷ decimal r.hold_days ∷ [] ∷ [])

abbrev pub drop_line : (low high : ℕ) → List ℕ
drop_line low high =
    csv_line (codes "droprange" ∷ zero_padded 8 low ∷ zero_padded 8 high ∷ [] ∷ [] ∷ [] ∷ [])

-- no line for an event that changes no range
abbrev pub change_line : Event → List ℕ
change_line (AddRange r) = add_line r
change_line (DropRange low high) = drop_line low high
change_line event = []
