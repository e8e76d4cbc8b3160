-- A merchant's open holds (own profile): CSV, a header and a record for each of them, in order of
-- reference.
use Rattle.std.specs.Prelude.{ℕ, nat_le, Bool, false, List, [], ◌∷◌, ◌++◌, flat_map, codes}
use Rattle.std.specs.Prelude.{Option, Some, None, unwrap_or, if◌then◌else◌}
use Rattle.std.specs.Fmt.{decimal}
use Rattle.card_no.specs.CardNumbers.{masked_of}
use Rattle.day_totals.specs.Digits.{zero_padded}
use Rattle.acq_message.specs.Elements.{or_empty}
use Rattle.acq_core.specs.declared.request.Request.{Request}
use Rattle.acq_core.specs.Tables.{Tables}
use Rattle.acq_book.specs.Lookups.{holds_at}
use Rattle.acq_reports.specs.Marks.{csv_line, end_text}

abbrev pub holds_header : List ℕ
holds_header = codes "reference,card,amount,until\n"

-- a hold is open to its last second
abbrev pub is_before_end : ℕ → Option ℕ → Bool
is_before_end moment None = false
is_before_end moment (Some end) = nat_le moment end

-- a hold; of the card its first and last digits
abbrev pub hold_fields : Request → List (List ℕ)
hold_fields row =
    zero_padded 12 (unwrap_or row.reference 0) ∷ masked_of (or_empty row.card) ∷ decimal row.amount
    ∷ end_text (unwrap_or row.hold_end 0) ∷ []

-- a hold's line, where it is open at the moment
abbrev pub hold_line : ℕ → Request → List ℕ
hold_line moment row =
    if is_before_end moment row.hold_end then csv_line (hold_fields row) else []

abbrev pub holds_text : Tables → List ℕ → ℕ → List ℕ
holds_text t merchant moment = holds_header ++ flat_map (hold_line moment) (holds_at t merchant)
