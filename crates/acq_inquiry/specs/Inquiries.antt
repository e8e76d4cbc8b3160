-- Which of a merchant's requests an inquiry finds (own profile): those that are asked for, and
-- those that share a reference with one of these. So a sale comes with its reversal, and a hold
-- with its completion and what reverses that, whichever of them is asked for.
use Rattle.std.specs.Prelude.{ℕ, ◌==◌, nat_eq, Bool, false, ◌&&◌, ◌||◌, List, [], ◌∷◌, ◌++◌}
use Rattle.std.specs.Prelude.{filter, flat_map, Option, Some, None}
use Rattle.std.specs.List.{ends_with, list_any}
use Rattle.std.specs.Str.{bytes_eq}
use Rattle.acq_message.specs.Elements.{or_empty}
use Rattle.acq_message.specs.Numbers.{is_number}
use Rattle.acq_core.specs.declared.request.Request.{Request}
use Rattle.acq_core.specs.Tables.{Tables, requests_of}
use Rattle.acq_inquiry.specs.declared.inquiry.Inquiry.{Inquiry}
use Rattle.acq_inquiry.specs.declared.inquiry.Inquiry.TheVariants.{Reference, Trace, CardEnds}

-- whether a request is asked for
abbrev pub is_asked : Inquiry → Request → Bool
is_asked (Reference n) row = is_number n row.reference
is_asked (Trace terminal trace) row =
    bytes_eq row.key.terminal terminal && bytes_eq row.key.trace trace
is_asked (CardEnds digits day) row = (row.day == day) && ends_with nat_eq (or_empty row.card) digits

-- a reference, where it is there
abbrev pub reference_if : Option ℕ → List ℕ
reference_if None = []
reference_if (Some n) = n ∷ []

-- a request's own reference, and that of the request which it follows
abbrev pub references_of : Request → List ℕ
references_of row = reference_if row.reference ++ reference_if row.follows

-- the references of the requests that are asked for, among these
abbrev pub related_by : Inquiry → List Request → List ℕ
related_by inquiry rows = flat_map references_of (filter (is_asked inquiry) rows)

-- a reference is there, and is one of these
abbrev pub is_one_of : List ℕ → Option ℕ → Bool
is_one_of references None = false
is_one_of references (Some n) = list_any (λ other. other == n) references

-- it is asked for, or one of its references is among these
abbrev pub is_found : Inquiry → List ℕ → Request → Bool
is_found inquiry references row =
    is_asked inquiry row || is_one_of references row.reference || is_one_of references row.follows

-- the requests that are found among a merchant's
abbrev pub found_in : Inquiry → List Request → List Request
found_in inquiry rows = filter (is_found inquiry (related_by inquiry rows)) rows

-- those of a merchant, in the order in which they came
abbrev pub found_at : Tables → List ℕ → Inquiry → List Request
found_at t merchant inquiry = found_in inquiry (requests_of merchant t.requests)
