-- What is looked up for an event suffices.
use Rattle.std.proofs.Common.{◌≡◌, ℕ, [], ◌∷◌, Option, Some, None, Bool, true, false, cond}
use Rattle.std.proofs.Common.{refl, sym, ap, ◌∙◌}
use Rattle.std.specs.Prelude.{option_and_then, not}
use Rattle.iso_codec.specs.Message.{IsoMessage, content_of}
use Rattle.card_no.specs.declared.range.Range.{Range}
use Rattle.card_no.specs.CardNumbers.{is_valid_card, prefix_of}
use Rattle.day_totals.specs.Totals.{DayTotals}
use Rattle.acq_message.specs.declared.service.Service.{Service}
use Rattle.acq_message.specs.declared.service.Service.TheVariants.{Authorization, Financial}
use Rattle.acq_message.specs.declared.service.Service.TheVariants.{Completion, Reversal}
use Rattle.acq_message.specs.declared.service.Service.TheVariants.{ReversalAdvice, Reconciliation}
use Rattle.acq_message.specs.declared.service.Service.TheVariants.{NetworkManagement}
use Rattle.acq_message.specs.declared.request_message.RequestMessage.{RequestMessage}
use Rattle.acq_message.specs.declared.response_code.ResponseCode.TheVariants as code
use Rattle.acq_message.specs.Numbers.{is_accepted_amount}
use Rattle.acq_message.specs.Elements.{or_empty, amount_in, key_of, original_key, reference_in}
use Rattle.acq_message.specs.Cards.{card_of, expiry_of}
use Rattle.acq_core.specs.declared.merchant.Merchant.{Merchant}
use Rattle.acq_core.specs.declared.arrival.Arrival.TheVariants.{Requested}
use Rattle.acq_core.specs.Known.{Facts, Known, Prior, known_for, wanted_for, totals_if}
use Rattle.acq_core.specs.Known.{reconciled_day, prefix_in}
use Rattle.acq_core.specs.Decision.{Decision, Reconciles, Replies, first_of, is_other_transaction}
use Rattle.acq_core.specs.Decision.{is_expired, admission, admission_in, decision_by}
use Rattle.acq_core.specs.Decision.{decision_of_key, decision_of_merchant, decision_of_request}
use Rattle.acq_core.specs.Outcome.{outcome_of}
use Rattle.acq_core.specs.Changes.{change_of}
use Rattle.acq_history.specs.LookUps.{named_in, LookUpsSuffice}
use Rattle.acq_history.proofs.ReconciliationsAlone.{is_reconciling, reconciles_only}

-- ---- what more may be known

-- the same with another original, another referred request, another range, other counts and totals
abbrev with_more :
    Known → Option Prior → Option Prior → Option Range → ℕ → ℕ → DayTotals → Known
with_more k original referred range admitted used totals =
    record k {
      original = original;
      referred = referred;
      range = range;
      admitted = admitted;
      used = used;
      totals = totals;
    }

-- a range matters only where the card is valid
admission_same : (k : Known) (original referred : Option Prior) (range : Option Range)
    (totals : DayTotals) (merchant : Merchant) (r : RequestMessage) →
    (is_valid_card (or_empty (card_of r.message)) ≡ true → k.range ≡ range) →
    admission k merchant r
    ≡ admission (with_more k original referred range k.admitted k.used totals) merchant r
admission_same k original referred range totals merchant r same =
    step (is_valid_card (or_empty (card_of r.message))) refl
  where
    checked : Bool → Option Range → Decision
    checked valid found =
        first_of r (
        (is_other_transaction merchant r, code.InvalidTransaction)
        ∷ (not (is_accepted_amount (amount_in r.message)), code.InvalidAmount)
        ∷ (not valid, code.InvalidCard)
        ∷ (is_expired k.today (expiry_of r.message), code.ExpiredCard)
        ∷ []
        ) (admission_in k merchant r found)

    step : (b : Bool) → is_valid_card (or_empty (card_of r.message)) ≡ b →
        checked (is_valid_card (or_empty (card_of r.message))) k.range
        ≡ checked (is_valid_card (or_empty (card_of r.message))) range
    step true valid = ap (checked (is_valid_card (or_empty (card_of r.message)))) (same valid)
    step false not_valid =
        ap (λ b. checked b k.range) not_valid ∙ sym (ap (λ b. checked b range) not_valid)

module _ (k : Known) (original referred : Option Prior) (range : Option Range)
    (admitted used : ℕ) (totals : DayTotals) where
  abbrev more : Known
  more = with_more k original referred range admitted used totals

  -- what is decided of a new key is what is decided
  fresh_same : (r : RequestMessage) →
      ((merchant : Merchant) →
      decision_by r.service k merchant r ≡ decision_by r.service more merchant r) →
      (o : Option Merchant) → decision_of_merchant k r o ≡ decision_of_merchant more r o
  fresh_same r same None = refl
  fresh_same r same (Some merchant) =
      ap (λ d. cond k.has_terminal (decision_of_key r k.recorded d)
      (Replies r code.InvalidMerchant))
      (same merchant)

  -- totals matter only to a reconciliation
  unreconciled_outcome : (d : Decision) → is_reconciling d ≡ false →
      outcome_of k d ≡ outcome_of more d
  unreconciled_outcome (Reconciles r day) e = absurd (cc)
  unreconciled_outcome other e = refl

  unreconciled_change : (d : Decision) → is_reconciling d ≡ false →
      change_of k d ≡ change_of more d
  unreconciled_change (Reconciles r day) e = absurd (cc)
  unreconciled_change other e = refl

  unreconciled_alike : (d e : Decision) → d ≡ e → is_reconciling d ≡ false →
      (outcome_of k d ≡ outcome_of more e) × (change_of k d ≡ change_of more e)
  unreconciled_alike d e same none = (
    unreconciled_outcome d none ∙ ap (outcome_of more) same,
    unreconciled_change d none ∙ ap (change_of more) same,
  )

-- with the same totals nothing else matters
module _ (k : Known) (original referred : Option Prior) (range : Option Range)
    (admitted used : ℕ) where
  abbrev alone : Known
  alone = with_more k original referred range admitted used k.totals

  same_outcome : (d : Decision) → outcome_of k d ≡ outcome_of alone d
  same_outcome (Reconciles r day) = refl
  same_outcome other = refl

  same_change : (d : Decision) → change_of k d ≡ change_of alone d
  same_change (Reconciles r day) = refl
  same_change other = refl

-- ---- requests

module _ (facts : Facts) (moment : ℕ) (m : IsoMessage) where
  abbrev request : Service → RequestMessage
  request s = record { moment = moment; service = s; message = m }

  abbrev looked : Service → Known
  looked s = known_for (wanted_for facts.today s m) facts

  abbrev whole : Service → Known
  whole s = known_for (named_in facts.today (Some (key_of s m)) m) facts

  -- beside what is looked up
  abbrev given : Option Prior
  given = option_and_then facts.recorded (original_key m)

  abbrev hold : Option Prior
  hold = option_and_then facts.referred (reference_in m)

  abbrev in_range : Option Range
  in_range = facts.range (prefix_of (or_empty (card_of m)))

  abbrev used : ℕ
  used = facts.used facts.today

  abbrev totals : DayTotals
  totals = totals_if facts.totals (reconciled_day facts.today (content_of m.elements 15))

  valid_range : is_valid_card (or_empty (card_of m)) ≡ true →
      option_and_then facts.range (prefix_in m) ≡ in_range
  valid_range valid =
      ap (λ b. option_and_then facts.range
      (cond b (Some (prefix_of (or_empty (card_of m)))) None)) valid

  decided : (s : Service) →
      decision_of_request s (looked s) (request s) ≡ decision_of_request s (whole s) (request s)
  decided Authorization =
      fresh_same (looked Authorization) given hold in_range facts.admitted used totals
      (request Authorization)
      (λ merchant. admission_same (looked Authorization) given hold in_range totals merchant
      (request Authorization) valid_range) facts.merchant
  decided Financial =
      fresh_same (looked Financial) given hold in_range facts.admitted used totals
      (request Financial)
      (λ merchant. admission_same (looked Financial) given hold in_range totals merchant
      (request Financial) valid_range) facts.merchant
  decided Completion =
      fresh_same (looked Completion) given hold in_range facts.admitted used totals
      (request Completion) (λ merchant. refl) facts.merchant
  decided Reversal =
      fresh_same (looked Reversal) given hold in_range facts.admitted used totals
      (request Reversal) (λ merchant. refl) facts.merchant
  decided ReversalAdvice =
      fresh_same (looked ReversalAdvice) given hold in_range facts.admitted used totals
      (request ReversalAdvice) (λ merchant. refl) facts.merchant
  decided Reconciliation =
      fresh_same (looked Reconciliation) given hold in_range facts.admitted used totals
      (request Reconciliation) (λ merchant. refl) facts.merchant
  decided NetworkManagement = refl

  -- what results and what changes
  abbrev Alike : Service → Type 0
  Alike s =
      (outcome_of (looked s) (decision_of_request s (looked s) (request s))
      ≡ outcome_of (whole s) (decision_of_request s (whole s) (request s)))
      × (change_of (looked s) (decision_of_request s (looked s) (request s))
      ≡ change_of (whole s) (decision_of_request s (whole s) (request s)))

  unreconciled : (s : Service) → (s ≡ Reconciliation → ⊥) →
      is_reconciling (decision_of_request s (looked s) (request s)) ≡ false
  unreconciled s other =
      let d = decision_of_request s (looked s) (request s) in
      let step : (b : Bool) → is_reconciling d ≡ b → is_reconciling d ≡ false =
      elim [
        | true ↦ (λ is. absurd (other (reconciles_only (looked s) (request s) is)))
        | false ↦ (λ is. is)
      ] in
      step (is_reconciling d) refl

  alike : (s : Service) → Alike s
  alike Authorization =
      unreconciled_alike (looked Authorization) given hold in_range facts.admitted used totals _ _
      (decided Authorization)
      (unreconciled Authorization (λ is. absurd (cc)))
  alike Financial =
      unreconciled_alike (looked Financial) given hold in_range facts.admitted used totals _ _ (decided Financial)
      (unreconciled Financial (λ is. absurd (cc)))
  alike Completion =
      unreconciled_alike (looked Completion) given hold in_range facts.admitted used totals _ _ (decided Completion)
      (unreconciled Completion (λ is. absurd (cc)))
  alike Reversal =
      unreconciled_alike (looked Reversal) given hold in_range facts.admitted used totals _ _ (decided Reversal)
      (unreconciled Reversal (λ is. absurd (cc)))
  alike ReversalAdvice =
      unreconciled_alike (looked ReversalAdvice) given hold in_range facts.admitted used totals _ _
      (decided ReversalAdvice)
      (unreconciled ReversalAdvice (λ is. absurd (cc)))
  alike Reconciliation = (
    same_outcome (looked Reconciliation) given hold in_range facts.admitted used _
        ∙ ap (outcome_of (whole Reconciliation)) (decided Reconciliation),
    same_change (looked Reconciliation) given hold in_range facts.admitted used _
        ∙ ap (change_of (whole Reconciliation)) (decided Reconciliation),
  )
  alike NetworkManagement = (refl, refl)

-- ---- whatever comes

pub look_ups_suffice : LookUpsSuffice
look_ups_suffice facts (Requested r) =
    let both = alike facts r.moment r.message r.service in
    record {
      decided = decided facts r.moment r.message r.service;
      results = both.0;
      changes = both.1;
    }
look_ups_suffice facts other = record { decided = refl; results = refl; changes = refl }
