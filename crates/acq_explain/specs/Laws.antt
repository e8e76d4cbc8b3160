-- The law of the checks: each that a request is said to pass holds of it, and the one that it is
-- said not to pass doesn't.
use Rattle.std.specs.Prelude.{◌≡◌, ◌==◌, nat_lt, Bool, true, false, not, Option, Some, None}
use Rattle.std.specs.Prelude.{is_some, IfSome}
use Rattle.std.specs.List.{list_all}
use Rattle.iso_codec.specs.Message.{content_of}
use Rattle.card_no.specs.CardNumbers.{is_valid_card}
use Rattle.acq_message.specs.declared.request_message.RequestMessage.{RequestMessage}
use Rattle.acq_message.specs.Elements.{or_empty, amount_in, remaining_in}
use Rattle.acq_message.specs.Cards.{card_of, expiry_of}
use Rattle.acq_message.specs.FirstCheck.{is_malformed}
use Rattle.acq_message.specs.Numbers.{is_accepted_amount}
use Rattle.acq_core.specs.declared.arrival.Arrival.TheVariants as arrival
use Rattle.acq_core.specs.Known.{Known, Prior, reconciled_day}
use Rattle.acq_core.specs.Decision.{is_full, is_expired, open_hold, original_of, is_final_for}
use Rattle.acq_core.specs.Decision.{is_network_code}
use Rattle.acq_core.specs.Outcome.{is_in_balance}
use Rattle.acq_reasons.specs.Reasons.{reason_for, has_other_transaction, has_other_currency}
use Rattle.acq_explain.specs.declared.check.Check.{Check}
use Rattle.acq_explain.specs.declared.check.Check.TheVariants as check
use Rattle.acq_explain.specs.Checks.{has_used_key, failed, passed}

-- there is such a merchant, hold or original, and of it this holds
abbrev pub there_is : {T : Type 0} → Option T → (T → Bool) → Bool
there_is None holds = false
there_is (Some x) holds = holds x

-- the hold that element 37 refers to, if it is open, and the original that element 90 names
abbrev pub hold_of : Known → RequestMessage → Option Prior
hold_of k r = open_hold r.moment k.referred

abbrev pub original : Known → RequestMessage → Option Prior
original k r = original_of r.message k.original

-- what each check is of
abbrev pub holds : Known → RequestMessage → Check → Bool
holds k r check.Elements = not (is_malformed r.service r.message)
holds k r check.Merchant = is_some k.merchant
holds k r check.Terminal = k.has_terminal
holds k r check.Key = not (has_used_key k r)
holds k r check.Transaction = not (has_other_transaction r)
holds k r check.Currency = there_is k.merchant (λ merchant. not (has_other_currency merchant r))
holds k r check.Amount = is_accepted_amount (amount_in r.message)
holds k r check.Card = is_valid_card (or_empty (card_of r.message))
holds k r check.Expiry = not (is_expired k.today (expiry_of r.message))
holds k r check.Range = is_some k.range
holds k r check.Hold = is_some (hold_of k r)
holds k r check.HeldAmount =
    there_is (hold_of k r) (λ hold. not (nat_lt hold.amount (amount_in r.message)))
holds k r check.Original = is_some (original k r)
holds k r check.Reversible =
    there_is (original k r) (λ p. not (is_final_for (remaining_in r.message) p))
holds k r check.SameAmount = there_is (original k r) (λ p. amount_in r.message == p.amount)
holds k r check.Remainder = there_is (original k r) (λ p. nat_lt (remaining_in r.message) p.amount)
holds k r check.Day = is_some (reconciled_day k.today (content_of r.message.elements 15))
holds k r check.Totals = is_in_balance k r
holds k r check.NetworkCode = is_network_code (content_of r.message.elements 70)
holds k r check.Room = not (is_full k)

-- of a request that passed the first check
abbrev pub ChecksPass : Type 0
ChecksPass =
    (k : Known) (r : RequestMessage) → is_malformed r.service r.message ≡ false
    → list_all (holds k r) (passed k r (reason_for k (arrival.Requested r))) ≡ true

abbrev pub ChecksFail : Type 0
ChecksFail =
    (k : Known) (r : RequestMessage) → is_malformed r.service r.message ≡ false
    → IfSome (failed (reason_for k (arrival.Requested r)) (has_used_key k r))
    (λ c. holds k r c ≡ false)
