-- What became of the requests that are asked for (own profile).
use Rattle.std.specs.Prelude.{ℕ, nat_lt, List, [], ◌∷◌, ◌++◌, codes, flat_map, length}
use Rattle.std.specs.Prelude.{if◌then◌else◌, Option, Some, None}
use Rattle.std.specs.Fmt.{decimal}
use Rattle.acq_core.specs.declared.request.Request.{Request}
use Rattle.acq_core.specs.Tables.{Tables}
use Rattle.acq_inquiry.specs.declared.inquiry.Inquiry.{Inquiry}
use Rattle.acq_inquiry.specs.Inquiries.{found_at}
use Rattle.acq_inquiry.specs.PostingLines.{posting_lines}
use Rattle.acq_inquiry.specs.RequestLines.{request_lines}

-- what became of a request
unfoldable pub request_text : Tables → Request → List ℕ
request_text t row = request_lines row ++ posting_lines t row

-- the same of these requests, or that there is none
abbrev pub text_of_told : Tables → List Request → List ℕ
text_of_told t [] = codes "nothing found\n"
text_of_told t (row ∷ rows) = flat_map (request_text t) (row ∷ rows)

-- more than so many were found
abbrev pub many_line : ℕ → List ℕ
many_line most =
    codes "more than " ++ decimal most ++ codes " requests found, too many to tell of: "
    ++ codes "ask for one by its reference or trace number\n"

-- what became of these requests; if there is a bound, no more than that there are more
abbrev pub text_of_found : Tables → Option ℕ → List Request → List ℕ
text_of_found t None rows = text_of_told t rows
text_of_found t (Some most) rows =
    if nat_lt most (length rows) then many_line most else text_of_told t rows

-- of those that an inquiry finds, in the order in which they came
abbrev pub inquiry_text : Tables → List ℕ → Inquiry → Option ℕ → List ℕ
inquiry_text t merchant inquiry most = text_of_found t most (found_at t merchant inquiry)
