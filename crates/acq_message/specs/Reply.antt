-- What replies hold (elements: ISO 8583:1987; which of them a reply has: own profile).
use Rattle.std.specs.Prelude.{ℕ, Bool, List, [], ◌∷◌, ◌++◌, filter, Option, Some, None}
use Rattle.std.specs.Prelude.{if◌then◌else◌, codes}
use Rattle.iso_codec.specs.Message.{IsoMessage, with_content, is_among}
use Rattle.day_totals.specs.Day.{mmdd_of}
use Rattle.day_totals.specs.Digits.{zero_padded}
use Rattle.day_totals.specs.Totals.{DayTotals, net_of, net_text_of}
use Rattle.acq_message.specs.declared.service.Service.{Service}
use Rattle.acq_message.specs.declared.service.Service.TheVariants.{NetworkManagement}
use Rattle.acq_message.specs.declared.response_code.ResponseCode.{ResponseCode}
use Rattle.acq_message.specs.declared.response_code.ResponseCode.TheVariants as code
use Rattle.acq_message.specs.declared.verdict.Verdict.{Verdict}
use Rattle.acq_message.specs.declared.verdict.Verdict.TheVariants as verdict
use Rattle.acq_message.specs.Services.{reply_kind, echoed}
use Rattle.acq_message.specs.Responses.{code_text}
use Rattle.acq_message.specs.Elements.{element_if}
use Rattle.acq_message.specs.declared.request_message.RequestMessage.{RequestMessage}

-- those of a request's elements that its reply echoes
abbrev pub echo : Service → IsoMessage → List (ℕ × List ℕ)
echo service request = filter (is_among (echoed service)) request.elements

-- the elements with these set, one after the other
abbrev pub with_contents : List (ℕ × List ℕ) → List (ℕ × List ℕ) → List (ℕ × List ℕ)
with_contents elements [] = elements
with_contents elements (e ∷ es) = with_contents (with_content elements e.0 e.1) es

-- the reply to a request: what it echoes, and these elements
abbrev pub reply : Service → IsoMessage → List (ℕ × List ℕ) → IsoMessage
reply service request added =
    record { kind = reply_kind service; elements = with_contents (echo service request) added }

-- the same to a request that came
abbrev pub reply_to : RequestMessage → List (ℕ × List ℕ) → IsoMessage
reply_to r added = reply r.service r.message added

-- ---- the elements that the host adds

-- element 15: the business day, in all replies but those of network management
abbrev pub day_element : Service → ℕ → List (ℕ × List ℕ)
day_element NetworkManagement day = []
day_element service day = (15, mmdd_of day) ∷ []

-- element 37: a reference in twelve digits
abbrev pub reference_element : Option ℕ → List (ℕ × List ℕ)
reference_element None = []
reference_element (Some reference) = (37, zero_padded 12 reference) ∷ []

-- element 39: the code
abbrev pub code_element : ResponseCode → List (ℕ × List ℕ)
code_element code = (39, code_text code) ∷ []

-- elements 74 to 77: the host's counts
abbrev pub count_elements : DayTotals → List (ℕ × List ℕ)
count_elements t =
    (74, zero_padded 10 t.credits.count) ∷ (75, zero_padded 10 t.credit_reversals.count)
    ∷ (76, zero_padded 10 t.debits.count) ∷ (77, zero_padded 10 t.debit_reversals.count) ∷ []

-- elements 86 to 89: its amounts
abbrev pub amount_elements : DayTotals → List (ℕ × List ℕ)
amount_elements t =
    (86, zero_padded 16 t.credits.amount) ∷ (87, zero_padded 16 t.credit_reversals.amount)
    ∷ (88, zero_padded 16 t.debits.amount) ∷ (89, zero_padded 16 t.debit_reversals.amount) ∷ []

-- elements 66, 74 to 77, 86 to 89 and 97: whether the totals are in balance, and the host's totals
abbrev pub totals_elements : Bool → DayTotals → List (ℕ × List ℕ)
totals_elements in_balance t =
    (66, if in_balance then codes "1" else codes "2")
    ∷ count_elements t ++ amount_elements t ++ (97, net_text_of (net_of t)) ∷ []

-- ---- the replies

-- a code and the business day
abbrev pub coded_reply : ℕ → RequestMessage → ResponseCode → IsoMessage
coded_reply day r code = reply_to r (day_element r.service day ++ code_element code)

-- the same with a reference
abbrev pub referring_reply : ℕ → RequestMessage → Option ℕ → ResponseCode → IsoMessage
referring_reply day r reference code =
    reply_to r (day_element r.service day ++ reference_element reference ++ code_element code)

-- what stands fixed of the reply to an admitted request: all but the issuer's part
abbrev pub draft_reply : ℕ → RequestMessage → ℕ → IsoMessage
draft_reply day r reference =
    reply_to r (day_element r.service day ++ reference_element (Some reference))

-- the reply to a reconciliation of a day
abbrev pub totals_reply : ℕ → RequestMessage → ResponseCode → Bool → DayTotals → IsoMessage
totals_reply day r code in_balance totals =
    reply_to r (day_element r.service day ++ code_element code ++ totals_elements in_balance totals)

-- the code of what an issuer says
abbrev pub verdict_code : Verdict → ResponseCode
verdict_code (verdict.Approved id) = code.Approved
verdict_code (verdict.Declined text) = code.Declined text
verdict_code verdict.NoAnswer = code.IssuerInoperative

-- the authorization id of an approval
abbrev pub authorization_id : Verdict → Option (List ℕ)
authorization_id (verdict.Approved id) = Some id
authorization_id (verdict.Declined text) = None
authorization_id verdict.NoAnswer = None

-- element 38: that id
abbrev pub authorization_element : Verdict → List (ℕ × List ℕ)
authorization_element v = element_if 38 (authorization_id v)

-- the elements of the issuer's part
abbrev pub verdict_elements : Verdict → List (ℕ × List ℕ)
verdict_elements v = authorization_element v ++ code_element (verdict_code v)

-- the reply to a request that its issuer answered: what stood fixed of it, and the issuer's part
abbrev pub answered_reply : IsoMessage → Verdict → IsoMessage
answered_reply draft v =
    record { kind = draft.kind; elements = with_contents draft.elements (verdict_elements v) }
