-- What each reason says of a request, over what is known when it came.
use Rattle.std.specs.Prelude.{◌≡◌, ◌⊎◌, ℕ, ◌==◌, nat_lt, Bool, true, false, Option, Some, None}
use Rattle.std.specs.List.{list_all, Contains}
use Rattle.std.specs.Char.{is_ascii_digit}
use Rattle.std.specs.Str.{bytes_eq}
use Rattle.iso_codec.specs.Message.{IsoMessage, content_of}
use Rattle.card_no.specs.CardNumbers.{is_valid_card}
use Rattle.acq_message.specs.declared.request_message.RequestMessage.{RequestMessage}
use Rattle.acq_message.specs.declared.service.Service.TheVariants.{Completion}
use Rattle.acq_message.specs.declared.verdict.Verdict.{Verdict}
use Rattle.acq_message.specs.declared.verdict.Verdict.TheVariants as verdict
use Rattle.acq_message.specs.Services.{needed, needed_card}
use Rattle.acq_message.specs.Elements.{has, text_at, or_empty, amount_in, remaining_in, essence_of}
use Rattle.acq_message.specs.Elements.{original_acquirer}
use Rattle.acq_message.specs.Cards.{card_of, expiry_of, has_bad_track, has_two_cards}
use Rattle.acq_message.specs.FirstCheck.{has_one_of, has_bad_remainder, unverifiable}
use Rattle.acq_message.specs.Numbers.{is_accepted_amount}
use Rattle.acq_core.specs.declared.arrival.Arrival.{Arrival}
use Rattle.acq_core.specs.declared.arrival.Arrival.TheVariants as arrival
use Rattle.acq_core.specs.declared.reply_state.ReplyState.TheVariants.{Kept, Awaited, Late}
use Rattle.acq_core.specs.Known.{Known, Prior, reconciled_day}
use Rattle.acq_core.specs.Decision.{is_expired, is_full, is_open_at, fits_acquirer}
use Rattle.acq_core.specs.Decision.{is_final_for, is_network_code}
use Rattle.acq_core.specs.Outcome.{is_in_balance}
use Rattle.acq_reasons.specs.declared.reason.Reason.{Reason}
use Rattle.acq_reasons.specs.declared.reason.Reason.TheVariants as reason
use Rattle.acq_reasons.specs.Reasons.{has_other_transaction, has_other_currency, is_approval}
use Rattle.acq_reasons.specs.Reasons.{is_hold}

-- there is such a merchant, hold or original, and of it this holds
abbrev pub ThereIs : {T : Type 0} → Option T → (T → Type 0) → Type 0
ThereIs {T} found P = (x : T) × (found ≡ Some x) × P x

-- a repeat of it gets a reply that was kept, which says 00 or doesn't
abbrev pub KeptCode : Bool → Prior → Type 0
KeptCode approves p =
    (reply : IsoMessage) × (p.reply_state ≡ Kept reply) × (is_approval reply ≡ approves)

-- it waits for its issuer
abbrev pub Waits : Prior → Type 0
Waits p = (draft : IsoMessage) × (p.reply_state ≡ Awaited draft)

-- what element 37 refers to is an authorization, and of it this holds
abbrev pub ThereIsHold : Known → (Prior → Type 0) → Type 0
ThereIsHold k P = ThereIs k.referred (λ p. (is_hold p.key.service ≡ true) × P p)

-- the original can't be reversed as it is asked, and of it this holds
abbrev pub ThereIsFinal : Known → RequestMessage → (Prior → Type 0) → Type 0
ThereIsFinal k r P =
    ThereIs k.original (λ p. (is_final_for (remaining_in r.message) p ≡ true) × P p)

-- what a reason says of a request
abbrev pub SaysTrue : Known → RequestMessage → Reason → Type 0
SaysTrue k r (reason.MissingElement n) =
    Contains (needed r.service) n × (has r.message n ≡ false)
SaysTrue k r reason.MissingCard = has_one_of r.message (needed_card r.service) ≡ false
SaysTrue k r (reason.Unverifiable n) =
    Contains unverifiable n × (has r.message n ≡ true)
SaysTrue k r reason.TrackWithoutCard = has_bad_track r.message ≡ true
SaysTrue k r reason.TwoCards = has_two_cards r.message ≡ true
SaysTrue k r reason.BadRemainder = has_bad_remainder r.service r.message ≡ true
SaysTrue k r reason.UnknownMerchant = k.merchant ≡ None
SaysTrue k r reason.UnknownTerminal = k.has_terminal ≡ false
SaysTrue k r reason.OtherRequest =
    ThereIs k.recorded (λ p. bytes_eq (essence_of r.service r.message) p.essence ≡ false)
SaysTrue k r reason.OtherTransaction = has_other_transaction r ≡ true
SaysTrue k r reason.OtherCurrency =
    ThereIs k.merchant (λ merchant. has_other_currency merchant r ≡ true)
SaysTrue k r reason.UnknownNetworkCode =
    is_network_code (content_of r.message.elements 70) ≡ false
SaysTrue k r reason.AmountOutOfRange = is_accepted_amount (amount_in r.message) ≡ false
SaysTrue k r reason.AboveHold =
    ThereIs k.referred (λ hold.
    (is_open_at r.moment hold.hold_end ≡ true)
    × (nat_lt hold.amount (amount_in r.message) ≡ true))
SaysTrue k r reason.OtherAmount =
    ThereIs k.original (λ p. (amount_in r.message == p.amount) ≡ false)
SaysTrue k r reason.NothingTaken =
    ThereIs k.original (λ p. nat_lt (remaining_in r.message) p.amount ≡ false)
SaysTrue k r reason.InvalidCard = is_valid_card (or_empty (card_of r.message)) ≡ false
SaysTrue k r reason.ExpiredCard = is_expired k.today (expiry_of r.message) ≡ true
SaysTrue k r reason.NoRange = k.range ≡ None
SaysTrue k r reason.DayFull = is_full k ≡ true
SaysTrue k r reason.BadReference = list_all is_ascii_digit (text_at r.message 37) ≡ false
SaysTrue k r reason.NoSuchReference = k.referred ≡ None
SaysTrue k r reason.NotAHold = ThereIs k.referred (λ p. is_hold p.key.service ≡ false)
SaysTrue k r reason.HoldWaits = ThereIsHold k Waits
SaysTrue k r reason.HoldReversedEarly = ThereIsHold k (λ p. p.reply_state ≡ Late)
SaysTrue k r reason.HoldDeclined = ThereIsHold k (λ p. (p.hold_end ≡ None) × KeptCode false p)
SaysTrue k r reason.HoldExpired =
    ThereIsHold k (λ p.
    (hold_end : ℕ) × (p.hold_end ≡ Some hold_end) × (is_open_at r.moment p.hold_end ≡ false))
SaysTrue k r reason.HoldEnded = ThereIsHold k (λ p. (p.hold_end ≡ None) × KeptCode true p)
SaysTrue k r reason.NoOriginal = k.original ≡ None
SaysTrue k r reason.OtherAcquirer =
    ThereIs k.original (λ p. fits_acquirer (original_acquirer r.message) p.acquirer ≡ false)
SaysTrue k r reason.OriginalWaits = ThereIsFinal k r Waits
SaysTrue k r reason.OriginalRefused =
    ThereIsFinal k r (λ p.
    ((p.key.service ≡ Completion) ⊎ (p.reference ≡ None)) × KeptCode false p)
SaysTrue k r reason.OriginalDeclined =
    ThereIsFinal k r (λ p.
    (reference : ℕ) × (p.reference ≡ Some reference) × KeptCode false p)
SaysTrue k r reason.OriginalEnded =
    ThereIsFinal k r (λ p.
    (is_hold p.key.service ≡ true) × (p.hold_end ≡ None) × KeptCode true p)
SaysTrue k r reason.OriginalLowered =
    ThereIsFinal k r (λ p.
    (is_hold p.key.service ≡ true)
    × (hold_end : ℕ) × (p.hold_end ≡ Some hold_end) × KeptCode true p)
SaysTrue k r reason.OriginalReversed =
    ThereIsFinal k r (λ p. (p.reply_state ≡ Late) ⊎ KeptCode true p)
SaysTrue k r reason.NoSuchDay =
    reconciled_day k.today (content_of r.message.elements 15) ≡ None
SaysTrue k r reason.OutOfBalance = is_in_balance k r ≡ false
-- the issuer says these
SaysTrue k r (reason.Declined text) = ⊥
SaysTrue k r reason.NoAnswer = ⊥

-- what a reason says of an answer
abbrev pub SaysOfAnswer : Verdict → Reason → Type 0
SaysOfAnswer said (reason.Declined text) = said ≡ verdict.Declined text
SaysOfAnswer said reason.NoAnswer = said ≡ verdict.NoAnswer
SaysOfAnswer said other = ⊥

-- what a reason says of what came
abbrev pub IsTrueOf : Known → Arrival → Reason → Type 0
IsTrueOf k (arrival.Malformed r) why = SaysTrue k r why
IsTrueOf k (arrival.Requested r) why = SaysTrue k r why
IsTrueOf k (arrival.Answered moment merchant reference said) why = SaysOfAnswer said why
IsTrueOf k other why = ⊥
