-- The entries of a merchant's history, and what each says by itself.
use Rattle.std.specs.Prelude.{ℕ, ◌==◌, Bool, true, false, not, ◌&&◌, ◌||◌, List, Option, Some, None}
use Rattle.std.specs.Prelude.{is_some}
use Rattle.card_no.specs.declared.range.Range.{Range}
use Rattle.acq_message.specs.declared.service.Service.{Service}
use Rattle.acq_message.specs.declared.service.Service.TheVariants.{Completion, Reversal}
use Rattle.acq_message.specs.declared.service.Service.TheVariants.{ReversalAdvice}
use Rattle.acq_message.specs.declared.request_key.RequestKey.{RequestKey}
use Rattle.acq_core.specs.declared.merchant.Merchant.{Merchant}
use Rattle.acq_message.specs.declared.verdict.Verdict.{Verdict}
use Rattle.acq_message.specs.declared.verdict.Verdict.TheVariants as verdict
use Rattle.acq_message.specs.declared.response_code.ResponseCode.{ResponseCode}
use Rattle.acq_message.specs.declared.response_code.ResponseCode.TheVariants as code
use Rattle.iso_codec.specs.Message.{IsoMessage}
use Rattle.acq_message.specs.Numbers.{is_number}
use Rattle.acq_message.specs.Elements.{reference_in, same_key, original_key}
use Rattle.acq_message.specs.Elements.{remaining_in}
use Rattle.acq_core.specs.declared.arrival.Arrival.{Arrival}
use Rattle.acq_message.specs.declared.request_message.RequestMessage.{RequestMessage}
use Rattle.acq_core.specs.declared.arrival.Arrival.TheVariants.{Requested, Answered, CutOver}
use Rattle.acq_core.specs.declared.arrival.Arrival.TheVariants.{Enrolled, TerminalAdded}
use Rattle.acq_soundness.specs.Requests.{recordable, is_reversal}
use Rattle.acq_core.specs.Outcome.{Outcome, Replied, Repeated, Asked, Performed, Reported}

-- what came, the day and the ranges that stood when it came, and its outcome
pub record Entry : Type 0 where
  pub arrival : Arrival
  pub day : ℕ
  pub ranges : List Range
  pub outcome : Outcome

-- ---- outcomes

-- the same of the codes that decide what is recorded and accepted
abbrev pub is_code : ResponseCode → ResponseCode → Bool
is_code code.Approved code.Approved = true
is_code code.FormatError code.FormatError = true
is_code code.InvalidMerchant code.InvalidMerchant = true
is_code a b = false

-- a reply, made now or kept
abbrev pub reply_in : Outcome → Option IsoMessage
reply_in (Replied code reply) = Some reply
reply_in (Repeated reply) = Some reply
reply_in outcome = None

-- the issuer was asked
abbrev pub is_asked : Outcome → Bool
is_asked (Asked query) = true
is_asked outcome = false

-- what was asked for was done
abbrev pub is_performed : Outcome → Bool
is_performed Performed = true
is_performed outcome = false

-- the host itself approved
abbrev pub is_approved : Outcome → Bool
is_approved (Replied given reply) = is_code code.Approved given
is_approved outcome = false

-- neither the first check refused it, nor was its merchant or terminal unknown
abbrev pub is_past_merchant : Outcome → Bool
is_past_merchant (Replied given reply) =
    not (is_code code.FormatError given || is_code code.InvalidMerchant given)
is_past_merchant (Asked query) = true
is_past_merchant (Repeated reply) = true
is_past_merchant Performed = true
is_past_merchant (Reported output) = true

-- ---- what came

-- the request that an arrival is, of those that are recorded
abbrev pub request_of : Arrival → Option RequestMessage
request_of (Requested r) = recordable r r.service
request_of arrival = None

-- the requests that the host itself accepts
abbrev pub is_acceptable : Service → Bool
is_acceptable Completion = true
is_acceptable Reversal = true
is_acceptable ReversalAdvice = true
is_acceptable service = false

-- a completion of a hold
abbrev pub is_completion : Service → Bool
is_completion Completion = true
is_completion service = false

-- ---- entries

-- a request of this service that the host accepted
abbrev pub accepts : (Service → Bool) → Option RequestMessage → Outcome → Bool
accepts fits None o = false
accepts fits (Some r) o = fits r.service && is_approved o

-- an accepted completion or reversal
abbrev pub is_acceptance : Entry → Bool
is_acceptance e = accepts is_acceptable (request_of e.arrival) e.outcome

-- a key is there, and is this one
abbrev pub is_key : RequestKey → Option RequestKey → Bool
is_key key None = false
is_key key (Some other) = same_key other key

-- an accepted completion of the hold with this reference
abbrev pub completes : ℕ → Option RequestMessage → Outcome → Bool
completes n None o = false
completes n (Some r) o =
    is_completion r.service && is_approved o && is_number n (reference_in r.message)

-- an entry that completes the hold with this reference
abbrev pub is_completing : ℕ → Entry → Bool
is_completing n e = completes n (request_of e.arrival) e.outcome

-- an accepted reversal of the original with this key
abbrev pub reverses : RequestKey → Option RequestMessage → Outcome → Bool
reverses key None o = false
reverses key (Some r) o =
    is_reversal r.service && is_approved o && is_key key (original_key r.message)

-- an entry that reverses the original with this key
abbrev pub is_reversing : RequestKey → Entry → Bool
is_reversing key e = reverses key (request_of e.arrival) e.outcome

-- what a reversal lets remain of its original
abbrev pub remaining_by : Option RequestMessage → ℕ
remaining_by None = 0
remaining_by (Some r) = remaining_in r.message

-- what an issuer said to the request with this reference
abbrev pub answers : ℕ → Arrival → Bool
answers n (Answered moment merchant reference verdict) = reference == n
answers n arrival = false

-- an answer that was taken: it gave a reply
abbrev pub is_answer : ℕ → Entry → Bool
is_answer n e = answers n e.arrival && is_some (reply_in e.outcome)

-- the moment of an approval
abbrev pub approval_by : ℕ → Verdict → Option ℕ
approval_by moment (verdict.Approved id) = Some moment
approval_by moment (verdict.Declined text) = None
approval_by moment verdict.NoAnswer = None

-- the moment of the approval that an arrival is
abbrev pub approval_in : Arrival → Option ℕ
approval_in (Answered moment merchant reference v) = approval_by moment v
approval_in arrival = None

-- a cutover that was made
abbrev pub is_cutover : Arrival → Bool
is_cutover CutOver = true
is_cutover arrival = false

-- the merchant that is to be enrolled
abbrev pub enrolment_in : Arrival → Option Merchant
enrolment_in (Enrolled merchant) = Some merchant
enrolment_in arrival = None

-- the terminal that is to be added
abbrev pub terminal_in : Arrival → Option (List ℕ)
terminal_in (TerminalAdded terminal) = Some terminal.id
terminal_in arrival = None
