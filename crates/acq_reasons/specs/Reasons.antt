-- Why a request gets another code than 00: the first check that applies, over what is known (own
-- profile). The checks and their order are those of the decision.
use Rattle.std.specs.Prelude.{ℕ, ◌==◌, nat_lt, Bool, true, false, not}
use Rattle.std.specs.Prelude.{List, [], ◌∷◌, find, codes, Option, Some, None, if◌then◌else◌}
use Rattle.std.specs.List.{list_all, list_any}
use Rattle.std.specs.Char.{is_ascii_digit}
use Rattle.std.specs.Str.{bytes_eq}
use Rattle.iso_codec.specs.Message.{IsoMessage, content_of}
use Rattle.card_no.specs.declared.range.Range.{Range}
use Rattle.card_no.specs.CardNumbers.{is_valid_card}
use Rattle.acq_message.specs.declared.service.Service.{Service}
use Rattle.acq_message.specs.declared.service.Service.TheVariants.{Authorization, Financial}
use Rattle.acq_message.specs.declared.service.Service.TheVariants.{Completion, Reversal}
use Rattle.acq_message.specs.declared.service.Service.TheVariants.{ReversalAdvice, Reconciliation}
use Rattle.acq_message.specs.declared.service.Service.TheVariants.{NetworkManagement}
use Rattle.acq_message.specs.declared.request_message.RequestMessage.{RequestMessage}
use Rattle.acq_message.specs.declared.verdict.Verdict.{Verdict}
use Rattle.acq_message.specs.declared.verdict.Verdict.TheVariants as verdict
use Rattle.acq_message.specs.Services.{needed, needed_card}
use Rattle.acq_message.specs.Elements.{has, text_at, or_empty, amount_in, transaction_in}
use Rattle.acq_message.specs.Elements.{remaining_in, essence_of}
use Rattle.acq_message.specs.Cards.{card_of, expiry_of, has_bad_track, has_two_cards}
use Rattle.acq_message.specs.FirstCheck.{has_one_of, unverifiable}
use Rattle.acq_message.specs.Numbers.{is_accepted_amount}
use Rattle.acq_core.specs.declared.merchant.Merchant.{Merchant}
use Rattle.acq_core.specs.declared.arrival.Arrival.{Arrival}
use Rattle.acq_core.specs.declared.arrival.Arrival.TheVariants as arrival
use Rattle.acq_core.specs.declared.reply_state.ReplyState.{ReplyState}
use Rattle.acq_core.specs.declared.reply_state.ReplyState.TheVariants.{Kept, Awaited, Late}
use Rattle.acq_core.specs.Known.{Known, Prior, reconciled_day}
use Rattle.acq_core.specs.Decision.{transactions, is_expired, is_full, open_hold, original_of}
use Rattle.acq_core.specs.Decision.{is_final_for, is_network_code}
use Rattle.acq_core.specs.Outcome.{is_in_balance}
use Rattle.acq_reasons.specs.declared.reason.Reason.{Reason}
use Rattle.acq_reasons.specs.declared.reason.Reason.TheVariants as reason

-- the reason of the first check that applies, else what later ones give
abbrev pub first_reason : List (Bool × Reason) → Option Reason → Option Reason
first_reason [] later = later
first_reason (check ∷ checks) later =
    if check.0 then Some check.1 else first_reason checks later

-- ---- the first check

-- the first of these elements that isn't there
abbrev pub first_missing : IsoMessage → List ℕ → Option ℕ
first_missing m numbers = find (λ n. not (has m n)) numbers

-- the first that is there and can't be checked
abbrev pub first_unverifiable : IsoMessage → Option ℕ
first_unverifiable m = find (has m) unverifiable

-- of a message whose elements are there and can be checked: its card, or what is to remain
abbrev pub bad_content : IsoMessage → Reason
bad_content m =
    if has_bad_track m then reason.TrackWithoutCard
    else if has_two_cards m then reason.TwoCards
    else reason.BadRemainder

-- one that can't be checked is there, or a content is bad
abbrev pub bad_element : IsoMessage → Option ℕ → Reason
bad_element m None = bad_content m
bad_element m (Some n) = reason.Unverifiable n

-- one is missing
abbrev pub malformation_of : Service → IsoMessage → Option ℕ → Reason
malformation_of service m (Some n) = reason.MissingElement n
malformation_of service m None =
    if has_one_of m (needed_card service) then bad_element m (first_unverifiable m)
    else reason.MissingCard

-- why the first check refuses a request
abbrev pub malformation : Service → IsoMessage → Reason
malformation service m = malformation_of service m (first_missing m (needed service))

-- ---- what the checks test

-- element 3 asks for another transaction than the service has
abbrev pub has_other_transaction : RequestMessage → Bool
has_other_transaction r =
    not (list_any (bytes_eq (transaction_in r.message)) (transactions r.service))

-- element 49 is another currency than the merchant's
abbrev pub has_other_currency : Merchant → RequestMessage → Bool
has_other_currency merchant r = not (bytes_eq (text_at r.message 49) merchant.currency)

-- the reply that was kept says 00
abbrev pub is_approval : IsoMessage → Bool
is_approval reply = bytes_eq (text_at reply 39) (codes "00")

-- ---- a sale, a return or an authorization

abbrev pub admission_reason_in : Known → Option Range → Option Reason
admission_reason_in k None = Some reason.NoRange
admission_reason_in k (Some range) = first_reason ((is_full k, reason.DayFull) ∷ []) None

abbrev pub admission_reason : Known → Merchant → RequestMessage → Option Reason
admission_reason k merchant r =
    first_reason (
    (has_other_transaction r, reason.OtherTransaction)
    ∷ (has_other_currency merchant r, reason.OtherCurrency)
    ∷ (not (is_accepted_amount (amount_in r.message)), reason.AmountOutOfRange)
    ∷ (not (is_valid_card (or_empty (card_of r.message))), reason.InvalidCard)
    ∷ (is_expired k.today (expiry_of r.message), reason.ExpiredCard)
    ∷ []
    ) (admission_reason_in k k.range)

-- ---- a completion

-- an approved hold that has an end is past it; else it was completed or reversed, or declined
abbrev pub answered_hold : Option ℕ → IsoMessage → Reason
answered_hold (Some hold_end) reply = reason.HoldExpired
answered_hold None reply =
    if is_approval reply then reason.HoldEnded else reason.HoldDeclined

-- by what a repeat of the hold gets
abbrev pub shut_hold : Prior → ReplyState → Reason
shut_hold p (Kept reply) = answered_hold p.hold_end reply
shut_hold p (Awaited draft) = reason.HoldWaits
shut_hold p Late = reason.HoldReversedEarly

-- only an authorization is a hold
abbrev pub is_hold : Service → Bool
is_hold Authorization = true
is_hold service = false

-- why what element 37 refers to is no open hold
abbrev pub no_open_hold : RequestMessage → Option Prior → Reason
no_open_hold r None =
    if list_all is_ascii_digit (text_at r.message 37) then reason.NoSuchReference
    else reason.BadReference
no_open_hold r (Some p) = if is_hold p.key.service then shut_hold p p.reply_state else reason.NotAHold

abbrev pub completion_reason_of : Known → RequestMessage → Option Prior → Option Reason
completion_reason_of k r None = Some (no_open_hold r k.referred)
completion_reason_of k r (Some hold) =
    first_reason (
    (nat_lt hold.amount (amount_in r.message), reason.AboveHold)
    ∷ (is_full k, reason.DayFull)
    ∷ []
    ) None

abbrev pub completion_reason : Known → Merchant → RequestMessage → Option Reason
completion_reason k merchant r =
    first_reason (
    (has_other_transaction r, reason.OtherTransaction)
    ∷ (has_other_currency merchant r, reason.OtherCurrency)
    ∷ (not (is_accepted_amount (amount_in r.message)), reason.AmountOutOfRange)
    ∷ []
    ) (completion_reason_of k r (open_hold r.moment k.referred))

-- ---- a reversal

-- no request has the key, or its acquirer is another
abbrev pub no_original : Option Prior → Reason
no_original None = reason.NoOriginal
no_original (Some p) = reason.OtherAcquirer

-- an original of which a repeat gets an approval
abbrev pub approved_original : Service → Option ℕ → Reason
approved_original Authorization (Some hold_end) = reason.OriginalLowered
approved_original Authorization None = reason.OriginalEnded
approved_original service hold_end = reason.OriginalReversed

-- an original of which it gets another code: an admitted one was declined
abbrev pub unapproved_original : Service → Option ℕ → Reason
unapproved_original Completion reference = reason.OriginalRefused
unapproved_original service (Some reference) = reason.OriginalDeclined
unapproved_original service None = reason.OriginalRefused

-- why an original can't be reversed, by what a repeat of it gets
abbrev pub final_original : Prior → ReplyState → Reason
final_original p (Kept reply) =
    if is_approval reply then approved_original p.key.service p.hold_end
    else unapproved_original p.key.service p.reference
final_original p (Awaited draft) = reason.OriginalWaits
final_original p Late = reason.OriginalReversed

abbrev pub reversal_reason_of : Known → RequestMessage → Option Prior → Option Reason
reversal_reason_of k r None = Some (no_original k.original)
reversal_reason_of k r (Some p) =
    first_reason (
    (is_final_for (remaining_in r.message) p, final_original p p.reply_state)
    ∷ (not (amount_in r.message == p.amount), reason.OtherAmount)
    ∷ (not (nat_lt (remaining_in r.message) p.amount), reason.NothingTaken)
    ∷ (is_full k, reason.DayFull)
    ∷ []
    ) None

abbrev pub reversal_reason : Known → RequestMessage → Option Reason
reversal_reason k r = reversal_reason_of k r (original_of r.message k.original)

-- ---- a reconciliation, and network management

abbrev pub reconciliation_reason : Known → RequestMessage → Option ℕ → Option Reason
reconciliation_reason k r None = Some reason.NoSuchDay
reconciliation_reason k r (Some day) =
    if is_in_balance k r then None else Some reason.OutOfBalance

abbrev pub network_reason : IsoMessage → Option Reason
network_reason m =
    if is_network_code (content_of m.elements 70) then None else Some reason.UnknownNetworkCode

-- ---- what a service decides of a request whose key is new, and the checks before

abbrev pub reason_by : Service → Known → Merchant → RequestMessage → Option Reason
reason_by Authorization k merchant r = admission_reason k merchant r
reason_by Financial k merchant r = admission_reason k merchant r
reason_by Completion k merchant r = completion_reason k merchant r
reason_by Reversal k merchant r = reversal_reason k r
reason_by ReversalAdvice k merchant r = reversal_reason k r
reason_by Reconciliation k merchant r =
    reconciliation_reason k r (reconciled_day k.today (content_of r.message.elements 15))
reason_by NetworkManagement k merchant r = network_reason r.message

-- a repeat gets what was kept, for the reason that it was kept for; another request is refused
abbrev pub repeat_reason : RequestMessage → Prior → Option Reason
repeat_reason r p =
    if bytes_eq (essence_of r.service r.message) p.essence then None else Some reason.OtherRequest

abbrev pub key_reason : RequestMessage → Option Prior → Option Reason → Option Reason
key_reason r None fresh = fresh
key_reason r (Some p) fresh = repeat_reason r p

abbrev pub merchant_reason : Known → RequestMessage → Option Merchant → Option Reason
merchant_reason k r None = Some reason.UnknownMerchant
merchant_reason k r (Some merchant) =
    if k.has_terminal then key_reason r k.recorded (reason_by r.service k merchant r)
    else Some reason.UnknownTerminal

abbrev pub request_reason : Service → Known → RequestMessage → Option Reason
request_reason NetworkManagement k r = network_reason r.message
request_reason service k r = merchant_reason k r k.merchant

-- ---- answers

abbrev pub verdict_reason : Verdict → Option Reason
verdict_reason (verdict.Approved id) = None
verdict_reason (verdict.Declined text) = Some (reason.Declined text)
verdict_reason verdict.NoAnswer = Some reason.NoAnswer

-- an answer that isn't taken has no code
abbrev pub answer_reason_of : Verdict → ReplyState → Option Reason
answer_reason_of said (Kept reply) = None
answer_reason_of said (Awaited draft) = verdict_reason said
answer_reason_of said Late = None

abbrev pub referred_reason : Verdict → Option Prior → Option Reason
referred_reason said None = None
referred_reason said (Some p) = answer_reason_of said p.reply_state

abbrev pub answer_reason : Known → Verdict → Option Merchant → Option Reason
answer_reason k said None = None
answer_reason k said (Some merchant) = referred_reason said k.referred

-- ---- why what came gets another code than 00, if it gets a code that isn't a kept one

abbrev pub reason_for : Known → Arrival → Option Reason
reason_for k (arrival.Undecoded fault) = None
reason_for k (arrival.Unserved m) = None
reason_for k (arrival.Malformed r) = Some (malformation r.service r.message)
reason_for k (arrival.Requested r) = request_reason r.service k r
reason_for k (arrival.Answered moment merchant reference said) = answer_reason k said k.merchant
reason_for k arrival.CutOver = None
reason_for k (arrival.RangeAdded range) = None
reason_for k (arrival.RangeDropped low high) = None
reason_for k (arrival.Enrolled merchant) = None
reason_for k (arrival.TerminalAdded terminal) = None
