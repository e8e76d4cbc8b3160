-- The order of the checks, once: what is to be done about what came, over what is known (own
-- profile).
use Rattle.std.specs.Prelude.{ℕ, ◌+◌, ◌-◌, ◌*◌, ◌==◌, nat_le, nat_lt, Bool, true, false, not}
use Rattle.std.specs.Prelude.{◌&&◌, ◌||◌, List, [], ◌∷◌, ◌++◌, take, drop, replicate, length}
use Rattle.std.specs.Prelude.{Option, Some, None, if◌then◌else◌, codes}
use Rattle.std.specs.List.{list_any}
use Rattle.std.specs.Str.{bytes_eq}
use Rattle.iso_codec.specs.Message.{IsoMessage, content_of}
use Rattle.card_no.specs.declared.range.Range.{Range}
use Rattle.card_no.specs.CardNumbers.{is_valid_card}
use Rattle.card_no.specs.Prefix.{PrefixProfile, in_force}
use Rattle.card_no.specs.Ranges.{is_valid_range_under, has_ends}
use Rattle.day_totals.specs.Day.{CivilDate, date_of}
use Rattle.std.specs.Str.Parse.{digits_value}
use Rattle.acq_message.specs.declared.service.Service.{Service}
use Rattle.acq_message.specs.declared.service.Service.TheVariants.{Authorization, Financial}
use Rattle.acq_message.specs.declared.service.Service.TheVariants.{Completion, Reversal}
use Rattle.acq_message.specs.declared.service.Service.TheVariants.{ReversalAdvice, Reconciliation}
use Rattle.acq_message.specs.declared.service.Service.TheVariants.{NetworkManagement}
use Rattle.acq_message.specs.declared.verdict.Verdict.{Verdict}
use Rattle.acq_message.specs.declared.request_message.RequestMessage.{RequestMessage}
use Rattle.acq_message.specs.declared.response_code.ResponseCode.{ResponseCode}
use Rattle.acq_message.specs.declared.response_code.ResponseCode.TheVariants as code
use Rattle.acq_message.specs.Numbers.{is_accepted_amount}
use Rattle.acq_message.specs.Elements.{text_at, or_empty, amount_in, transaction_in, essence_of}
use Rattle.acq_message.specs.Elements.{original_acquirer, remaining_in}
use Rattle.acq_message.specs.Cards.{card_of, expiry_of}
use Rattle.acq_core.specs.declared.merchant.Merchant.{Merchant}
use Rattle.acq_core.specs.declared.terminal.Terminal.{Terminal}
use Rattle.acq_core.specs.declared.output.Output.{Output}
use Rattle.acq_core.specs.declared.output.Output.TheVariants as output
use Rattle.acq_core.specs.declared.arrival.Arrival.{Arrival}
use Rattle.acq_core.specs.declared.arrival.Arrival.TheVariants as arrival
use Rattle.acq_core.specs.declared.reply_state.ReplyState.{ReplyState}
use Rattle.acq_core.specs.declared.reply_state.ReplyState.TheVariants.{Kept, Awaited, Late}
use Rattle.day_totals.specs.Day.{last_day}
use Rattle.acq_core.specs.Known.{Prior, Known, reconciled_day}

-- what is to be done
pub data Decision : Type 0 where
  -- nothing changes: this is reported, or this code is replied, or the reply that was kept is
  -- given again
  Reports : (output : Output) → Decision
  Replies : (request : RequestMessage) (code : ResponseCode) → Decision
  Repeats : (reply : IsoMessage) → Decision
  -- a request is recorded: it is refused, admitted in a range under a reference, completes a hold,
  -- reverses an original, or reconciles a day
  Refuses : (request : RequestMessage) (code : ResponseCode) → Decision
  Admits : (request : RequestMessage) (range : Range) (reference : ℕ) → Decision
  Completes : (request : RequestMessage) (hold : Prior) → Decision
  Reverses : (request : RequestMessage) (original : Prior) → Decision
  Reconciles : (request : RequestMessage) (day : ℕ) → Decision
  -- a pending request is answered, of whose reply so much stood fixed
  Answers : (moment : ℕ) (verdict : Verdict) (request : Prior) (draft : IsoMessage) → Decision
  -- what all share, or a merchant's enrolment, is changed
  CutsOver : Decision
  AddsRange : (range : Range) → Decision
  DropsRange : (low high : ℕ) → Decision
  Enrols : (merchant : Merchant) → Decision
  AddsTerminal : (terminal : Terminal) → Decision

-- the first refusal that applies, else what is accepted
abbrev pub first_of : RequestMessage → List (Bool × ResponseCode) → Decision → Decision
first_of r [] accepted = accepted
first_of r (refusal ∷ later) accepted =
    if refusal.0 then Refuses r refusal.1 else first_of r later accepted

-- ---- what the checks test

-- the merchant's day admits no more
abbrev pub is_full : Known → Bool
is_full k = not (nat_lt k.used k.limit)

-- purchases are authorized and completed, sold or returned
abbrev pub transactions : Service → List (List ℕ)
transactions Financial = codes "00" ∷ codes "20" ∷ []
transactions service = codes "00" ∷ []

-- element 3 asks for another transaction, or element 49 is another currency than the merchant's
abbrev pub is_other_transaction : Merchant → RequestMessage → Bool
is_other_transaction merchant r =
    not (list_any (bytes_eq (transaction_in r.message)) (transactions r.service))
    || not (bytes_eq (text_at r.message 49) merchant.currency)

-- months counted through the years
abbrev pub month_number : ℕ → ℕ → ℕ
month_number year month = year * 12 + month

-- the month of an expiry, YYMM, isn't 01 to 12, or lies before the month of a date
abbrev pub is_past : CivilDate → ℕ → ℕ → Bool
is_past date year month =
    not (nat_le 1 month && nat_le month 12)
    || nat_lt (month_number (2000 + year) month) (month_number date.year date.month)

-- whether an expiry that is known has passed on a day
abbrev pub is_expired : ℕ → Option (List ℕ) → Bool
is_expired today None = false
is_expired today (Some expiry) =
    is_past (date_of today) (digits_value 10 (take 2 expiry)) (digits_value 10 (drop 2 expiry))

-- a hold with this end, if it has one, is open at a moment
abbrev pub is_open_at : ℕ → Option ℕ → Bool
is_open_at moment None = false
is_open_at moment (Some hold_end) = nat_le moment hold_end

-- the hold, if it is open at a moment
abbrev pub open_hold : ℕ → Option Prior → Option Prior
open_hold moment None = None
open_hold moment (Some p) = if is_open_at moment p.hold_end then Some p else None

-- element 90's acquirer is zeros or the original's element 32, right-justified with zeros; where
-- the original had none, it is free
abbrev pub fits_acquirer : List ℕ → Option (List ℕ) → Bool
fits_acquirer text None = true
fits_acquirer text (Some acquirer) =
    bytes_eq text (replicate 11 48)
    || bytes_eq text (replicate (11 - length acquirer) 48 ++ acquirer)

-- the original, if its acquirer fits
abbrev pub original_of : IsoMessage → Option Prior → Option Prior
original_of m None = None
original_of m (Some p) = if fits_acquirer (original_acquirer m) p.acquirer then Some p else None

-- ---- the checks of each service, in their order

-- a sale, a return or an authorization whose card is of this range
abbrev pub admission_in : Known → Merchant → RequestMessage → Option Range → Decision
admission_in k merchant r None = Refuses r code.NoSuchIssuer
admission_in k merchant r (Some range) =
    first_of r ((is_full k, code.LimitExceeded) ∷ [])
    (Admits r range (merchant.first_reference + k.admitted))

-- a sale, a return or an authorization
abbrev pub admission : Known → Merchant → RequestMessage → Decision
admission k merchant r =
    first_of r (
    (is_other_transaction merchant r, code.InvalidTransaction)
    ∷ (not (is_accepted_amount (amount_in r.message)), code.InvalidAmount)
    ∷ (not (is_valid_card (or_empty (card_of r.message))), code.InvalidCard)
    ∷ (is_expired k.today (expiry_of r.message), code.ExpiredCard)
    ∷ []
    ) (admission_in k merchant r k.range)

-- a completion of this hold
abbrev pub completion_of : Known → RequestMessage → Option Prior → Decision
completion_of k r None = Refuses r code.RecordNotFound
completion_of k r (Some hold) =
    first_of r (
    (nat_lt hold.amount (amount_in r.message), code.InvalidAmount)
    ∷ (is_full k, code.LimitExceeded)
    ∷ []
    ) (Completes r hold)

-- a completion
abbrev pub completion : Known → Merchant → RequestMessage → Decision
completion k merchant r =
    first_of r (
    (is_other_transaction merchant r, code.InvalidTransaction)
    ∷ (not (is_accepted_amount (amount_in r.message)), code.InvalidAmount)
    ∷ []
    ) (completion_of k r (open_hold r.moment k.referred))

-- a request waits for its issuer's answer
abbrev pub is_awaited : ReplyState → Bool
is_awaited (Kept reply) = false
is_awaited (Awaited draft) = true
is_awaited Late = false

-- the original can't be reversed, or not in part, since it is pending
abbrev pub is_final_for : ℕ → Prior → Bool
is_final_for remaining p =
    not p.is_reversible || (is_awaited p.reply_state && nat_lt 0 remaining)

-- a reversal names its original's amount, and lets less of it remain
abbrev pub leaves_a_part : ℕ → ℕ → Prior → Bool
leaves_a_part amount remaining p = (amount == p.amount) && nat_lt remaining p.amount

-- a reversal of this original
abbrev pub reversal_of : Known → RequestMessage → Option Prior → Decision
reversal_of k r None = Refuses r code.RecordNotFound
reversal_of k r (Some p) =
    first_of r (
    (is_final_for (remaining_in r.message) p, code.NoActionTaken)
    ∷ (not (leaves_a_part (amount_in r.message) (remaining_in r.message) p), code.InvalidAmount)
    ∷ (is_full k, code.LimitExceeded)
    ∷ []
    ) (Reverses r p)

-- a reconciliation of this day
abbrev pub reconciliation_of : RequestMessage → Option ℕ → Decision
reconciliation_of r None = Refuses r code.ReconcileError
reconciliation_of r (Some day) = Reconciles r day

-- sign-on, sign-off and the echo test, in element 70 (ISO 8583:1987, network management information
-- code)
abbrev pub network_codes : List (List ℕ)
network_codes = codes "001" ∷ codes "002" ∷ codes "301" ∷ []

-- element 70 has one of these
abbrev pub is_network_code : Option (List ℕ) → Bool
is_network_code None = false
is_network_code (Some text) = list_any (bytes_eq text) network_codes

-- the code that network management gets
abbrev pub network_response : IsoMessage → ResponseCode
network_response m =
    if is_network_code (content_of m.elements 70) then code.Approved else code.InvalidTransaction

-- what a service decides of a request whose key is new
abbrev pub decision_by : Service → Known → Merchant → RequestMessage → Decision
decision_by Authorization k merchant r = admission k merchant r
decision_by Financial k merchant r = admission k merchant r
decision_by Completion k merchant r = completion k merchant r
decision_by Reversal k merchant r = reversal_of k r (original_of r.message k.original)
decision_by ReversalAdvice k merchant r =
    reversal_of k r (original_of r.message k.original)
decision_by Reconciliation k merchant r =
    reconciliation_of r (reconciled_day k.today (content_of r.message.elements 15))
decision_by NetworkManagement k merchant r = Replies r (network_response r.message)

-- ---- the checks before them

-- what a repeat gets
abbrev pub repeat_of : ReplyState → Decision
repeat_of (Kept reply) = Repeats reply
repeat_of (Awaited draft) = Reports output.Waiting
repeat_of Late = Reports output.Late

-- a request whose key is recorded: a repeat must be alike in its essence
abbrev pub decision_of_repeat : RequestMessage → Prior → Decision
decision_of_repeat r p =
    if bytes_eq (essence_of r.service r.message) p.essence then repeat_of p.reply_state
    else Replies r code.DuplicateTransmission

-- a key that is recorded gets no new decision
abbrev pub decision_of_key : RequestMessage → Option Prior → Decision → Decision
decision_of_key r None fresh = fresh
decision_of_key r (Some p) fresh = decision_of_repeat r p

-- only enrolled merchants' terminals are served
abbrev pub decision_of_merchant : Known → RequestMessage → Option Merchant → Decision
decision_of_merchant k r None = Replies r code.InvalidMerchant
decision_of_merchant k r (Some merchant) =
    if k.has_terminal then decision_of_key r k.recorded (decision_by r.service k merchant r)
    else Replies r code.InvalidMerchant

-- network management needs no merchant and is never recorded
abbrev pub decision_of_request : Service → Known → RequestMessage → Decision
decision_of_request NetworkManagement k r = Replies r (network_response r.message)
decision_of_request service k r = decision_of_merchant k r k.merchant

-- ---- answers, ranges, enrolments

-- an answer counts only while its request is pending
abbrev pub decision_of_reply_state : ℕ → Verdict → Prior → ReplyState → Decision
decision_of_reply_state moment verdict p (Kept reply) = Reports output.AlreadyAnswered
decision_of_reply_state moment verdict p (Awaited draft) = Answers moment verdict p draft
decision_of_reply_state moment verdict p Late = Reports output.Late

-- an answer, by the request with its reference
abbrev pub decision_of_prior : ℕ → Verdict → Option Prior → Decision
decision_of_prior moment verdict None = Reports output.UnknownReference
decision_of_prior moment verdict (Some p) =
    decision_of_reply_state moment verdict p p.reply_state

-- an answer, by its merchant
abbrev pub decision_of_answer : Known → ℕ → Verdict → Option Merchant → Decision
decision_of_answer k moment verdict None = Reports output.NoSuchMerchant
decision_of_answer k moment verdict (Some merchant) = decision_of_prior moment verdict k.referred

-- a valid range that is added, by the one that it overlaps
abbrev pub decision_of_new_range : Range → Option Range → Decision
decision_of_new_range range None = AddsRange range
decision_of_new_range range (Some other) = Reports (output.Overlap other)

-- a range that is dropped: what overlaps its ends must be just it
abbrev pub decision_of_old_range : ℕ → ℕ → Option Range → Decision
decision_of_old_range low high None = Reports output.NoSuchRange
decision_of_old_range low high (Some range) =
    if has_ends low high range then DropsRange low high else Reports output.NoSuchRange

-- a merchant that is enrolled
abbrev pub decision_of_enrolment : Merchant → Option Merchant → Decision
decision_of_enrolment merchant None = Enrols merchant
decision_of_enrolment merchant (Some enrolled) = Reports output.AlreadyEnrolled

-- a terminal that is added
abbrev pub decision_of_terminal : Terminal → Bool → Option Merchant → Decision
decision_of_terminal terminal there None = Reports output.NoSuchMerchant
decision_of_terminal terminal there (Some merchant) =
    if there then Reports output.Done else AddsTerminal terminal

-- ---- what is to be done about what came

-- under a profile of prefixes
module _ (profile : PrefixProfile) where
  abbrev pub decision_under : Known → Arrival → Decision
  decision_under k (arrival.Undecoded fault) = Reports (output.Undecodable fault)
  decision_under k (arrival.Unserved m) = Reports (output.UnservedType m.kind)
  decision_under k (arrival.Malformed r) = Replies r code.FormatError
  decision_under k (arrival.Requested r) = decision_of_request r.service k r
  decision_under k (arrival.Answered moment merchant reference verdict) =
      decision_of_answer k moment verdict k.merchant
  decision_under k arrival.CutOver =
      if nat_lt k.today last_day then CutsOver else Reports output.LastDay
  decision_under k (arrival.RangeAdded range) =
      if is_valid_range_under profile range then decision_of_new_range range k.overlapped
      else Reports output.BadRange
  decision_under k (arrival.RangeDropped low high) = decision_of_old_range low high k.overlapped
  decision_under k (arrival.Enrolled merchant) = decision_of_enrolment merchant k.merchant
  decision_under k (arrival.TerminalAdded terminal) =
      decision_of_terminal terminal k.has_terminal k.merchant

-- under the one in force
abbrev pub decision : Known → Arrival → Decision
decision = decision_under in_force
