-- What is decided over widened ranges is what is decided over the ranges, widened.
use Rattle.std.proofs.Common.{◌≡◌, ℕ, ◌+◌, ◌*◌, List, [], ◌∷◌, Option, Some, None, Bool, true, false}
use Rattle.std.proofs.Common.{option_map, refl, ap, ◌∙◌}
use Rattle.std.specs.Prelude.{not, nat_lt, if◌then◌else◌}
use Rattle.std.specs.Str.{bytes_eq}
use Rattle.card_no.specs.declared.range.Range.{Range}
use Rattle.card_no.specs.CardNumbers.{is_valid_card}
use Rattle.card_no.specs.Widening.{widened}
use Rattle.acq_message.specs.declared.service.Service.{Service}
use Rattle.acq_message.specs.declared.service.Service.TheVariants.{Authorization, Financial}
use Rattle.acq_message.specs.declared.service.Service.TheVariants.{Completion, Reversal}
use Rattle.acq_message.specs.declared.service.Service.TheVariants.{ReversalAdvice, Reconciliation}
use Rattle.acq_message.specs.declared.service.Service.TheVariants.{NetworkManagement}
use Rattle.acq_message.specs.declared.verdict.Verdict.{Verdict}
use Rattle.acq_message.specs.declared.response_code.ResponseCode.{ResponseCode}
use Rattle.acq_message.specs.declared.response_code.ResponseCode.TheVariants as code
use Rattle.acq_message.specs.declared.request_message.RequestMessage.{RequestMessage}
use Rattle.acq_message.specs.Numbers.{is_accepted_amount}
use Rattle.acq_message.specs.Elements.{amount_in, or_empty, essence_of, original_acquirer}
use Rattle.acq_message.specs.Elements.{remaining_in}
use Rattle.acq_message.specs.Cards.{card_of, expiry_of}
use Rattle.iso_codec.specs.Message.{content_of}
use Rattle.acq_core.specs.declared.merchant.Merchant.{Merchant}
use Rattle.acq_core.specs.declared.terminal.Terminal.{Terminal}
use Rattle.acq_core.specs.declared.reply_state.ReplyState.{ReplyState}
use Rattle.acq_core.specs.declared.reply_state.ReplyState.TheVariants.{Kept, Awaited, Late}
use Rattle.acq_core.specs.Known.{Known, Prior, reconciled_day}
use Rattle.acq_core.specs.Decision.{Decision, Reports, Replies, Repeats, Refuses, Admits, Completes}
use Rattle.acq_core.specs.Decision.{Reverses, Reconciles, Answers, CutsOver, AddsRange, DropsRange}
use Rattle.acq_core.specs.Decision.{Enrols, AddsTerminal, first_of, is_full, is_expired, is_open_at}
use Rattle.acq_core.specs.Decision.{is_other_transaction, open_hold, fits_acquirer, original_of}
use Rattle.acq_core.specs.Decision.{admission_in, admission, completion_of, completion, reversal_of}
use Rattle.acq_core.specs.Decision.{reconciliation_of, decision_by, repeat_of}
use Rattle.acq_core.specs.Decision.{decision_of_key, decision_of_merchant, decision_of_request}
use Rattle.acq_core.specs.Decision.{decision_of_reply_state, decision_of_prior, decision_of_answer}
use Rattle.acq_core.specs.Decision.{decision_of_enrolment, decision_of_terminal}
use Rattle.acq_core.specs.Decision.{is_final_for, leaves_a_part}
use Rattle.acq_core.specs.Outcome.{outcome_of}
use Rattle.acq_core.specs.Changes.{change_of}
use Rattle.acq_core.specs.Tables.{Tables, after_any}
use Rattle.acq_core.specs.Widening.{widened_tables}
use Rattle.acq_widening.proofs.RangeListsWidened.{with_widened, without_widened}

-- what is known, with the ranges that were found widened
abbrev pub widened_known : Known → Known
widened_known k =
    record k {
      range = option_map widened k.range;
      overlapped = option_map widened k.overlapped;
    }

-- what is decided, with its range widened
abbrev pub widened_decision : Decision → Decision
widened_decision (Admits r range reference) = Admits r (widened range) reference
widened_decision (AddsRange range) = AddsRange (widened range)
widened_decision (DropsRange low high) = DropsRange (low * 100) (high * 100 + 99)
widened_decision d = d

-- ---- requests

refusals_stay : (r : RequestMessage) (refusals : List (Bool × ResponseCode)) (accepted : Decision) →
    first_of r refusals (widened_decision accepted)
    ≡ widened_decision (first_of r refusals accepted)
refusals_stay r [] accepted = refl
refusals_stay r (x ∷ xs) accepted =
    elim x.0
    as (λ b. (if b then Refuses r x.1 else first_of r xs (widened_decision accepted))
    ≡ widened_decision (if b then Refuses r x.1 else first_of r xs accepted)) [
      | true ↦ refl
      | false ↦ refusals_stay r xs accepted
    ]

module _ (k : Known) (r : RequestMessage) where
  in_range : (merchant : Merchant) (o : Option Range) →
      admission_in (widened_known k) merchant r (option_map widened o)
      ≡ widened_decision (admission_in k merchant r o)
  in_range merchant None = refl
  in_range merchant (Some range) =
      refusals_stay r ((is_full k, code.LimitExceeded) ∷ [])
      (Admits r range (merchant.first_reference + k.admitted))

  admitted : (merchant : Merchant) →
      admission (widened_known k) merchant r ≡ widened_decision (admission k merchant r)
  admitted merchant =
      let refusals : List (Bool × ResponseCode) =
      (is_other_transaction merchant r, code.InvalidTransaction)
      ∷ (not (is_accepted_amount (amount_in r.message)), code.InvalidAmount)
      ∷ (not (is_valid_card (or_empty (card_of r.message))), code.InvalidCard)
      ∷ (is_expired k.today (expiry_of r.message), code.ExpiredCard)
      ∷ [] in
      ap (first_of r refusals) (in_range merchant k.range)
      ∙ refusals_stay r refusals (admission_in k merchant r k.range)

  of_hold : (o : Option Prior) →
      completion_of k r (open_hold r.moment o)
      ≡ widened_decision (completion_of k r (open_hold r.moment o))
  of_hold None = refl
  of_hold (Some hold) =
      let refusals : List (Bool × ResponseCode) =
      (nat_lt hold.amount (amount_in r.message), code.InvalidAmount)
      ∷ (is_full k, code.LimitExceeded) ∷ [] in
      elim (is_open_at r.moment hold.hold_end)
      as (λ b. completion_of k r (if b then Some hold else None)
      ≡ widened_decision (completion_of k r (if b then Some hold else None))) [
        | true ↦ refusals_stay r refusals (Completes r hold)
        | false ↦ refl
      ]

  completed : (merchant : Merchant) →
      completion (widened_known k) merchant r ≡ widened_decision (completion k merchant r)
  completed merchant =
      let refusals : List (Bool × ResponseCode) =
      (is_other_transaction merchant r, code.InvalidTransaction)
      ∷ (not (is_accepted_amount (amount_in r.message)), code.InvalidAmount)
      ∷ [] in
      ap (first_of r refusals) (of_hold k.referred)
      ∙ refusals_stay r refusals (completion_of k r (open_hold r.moment k.referred))

  reversed : (o : Option Prior) →
      reversal_of k r (original_of r.message o)
      ≡ widened_decision (reversal_of k r (original_of r.message o))
  reversed None = refl
  reversed (Some p) =
      let refusals : List (Bool × ResponseCode) =
      (is_final_for (remaining_in r.message) p, code.NoActionTaken)
      ∷ (not (leaves_a_part (amount_in r.message) (remaining_in r.message) p), code.InvalidAmount)
      ∷ (is_full k, code.LimitExceeded)
      ∷ [] in
      elim (fits_acquirer (original_acquirer r.message) p.acquirer)
      as (λ b. reversal_of k r (if b then Some p else None)
      ≡ widened_decision (reversal_of k r (if b then Some p else None))) [
        | true ↦ refusals_stay r refusals (Reverses r p)
        | false ↦ refl
      ]

  reconciled : (o : Option ℕ) →
      reconciliation_of r o ≡ widened_decision (reconciliation_of r o)
  reconciled None = refl
  reconciled (Some day) = refl

  by_service : (s : Service) (merchant : Merchant) →
      decision_by s (widened_known k) merchant r ≡ widened_decision (decision_by s k merchant r)
  by_service Authorization merchant = admitted merchant
  by_service Financial merchant = admitted merchant
  by_service Completion merchant = completed merchant
  by_service Reversal merchant = reversed k.original
  by_service ReversalAdvice merchant = reversed k.original
  by_service Reconciliation merchant =
      reconciled (reconciled_day k.today (content_of r.message.elements 15))
  by_service NetworkManagement merchant = refl

  repeated : (s : ReplyState) → repeat_of s ≡ widened_decision (repeat_of s)
  repeated (Kept reply) = refl
  repeated (Awaited draft) = refl
  repeated Late = refl

  by_key : (merchant : Merchant) (o : Option Prior) →
      decision_of_key r o (decision_by r.service (widened_known k) merchant r)
      ≡ widened_decision (decision_of_key r o (decision_by r.service k merchant r))
  by_key merchant None = by_service r.service merchant
  by_key merchant (Some p) =
      elim (bytes_eq (essence_of r.service r.message) p.essence)
      as (λ b. (if b then repeat_of p.reply_state else Replies r code.DuplicateTransmission)
      ≡ widened_decision
      (if b then repeat_of p.reply_state else Replies r code.DuplicateTransmission)) [
        | true ↦ repeated p.reply_state
        | false ↦ refl
      ]

  by_merchant : (o : Option Merchant) →
      decision_of_merchant (widened_known k) r o ≡ widened_decision (decision_of_merchant k r o)
  by_merchant None = refl
  by_merchant (Some merchant) =
      let given = decision_by r.service (widened_known k) merchant r in
      let fresh = decision_by r.service k merchant r in
      elim k.has_terminal
      as (λ b. (if b then decision_of_key r k.recorded given else Replies r code.InvalidMerchant)
      ≡ widened_decision
      (if b then decision_of_key r k.recorded fresh else Replies r code.InvalidMerchant)) [
        | true ↦ by_key merchant k.recorded
        | false ↦ refl
      ]

  pub request_widened : (s : Service) →
      decision_of_request s (widened_known k) r ≡ widened_decision (decision_of_request s k r)
  request_widened NetworkManagement = refl
  request_widened Authorization = by_merchant k.merchant
  request_widened Financial = by_merchant k.merchant
  request_widened Completion = by_merchant k.merchant
  request_widened Reversal = by_merchant k.merchant
  request_widened ReversalAdvice = by_merchant k.merchant
  request_widened Reconciliation = by_merchant k.merchant

-- ---- answers and enrolments, which look at no range

module _ (moment : ℕ) (verdict : Verdict) where
  by_reply_state : (p : Prior) (s : ReplyState) →
      decision_of_reply_state moment verdict p s
      ≡ widened_decision (decision_of_reply_state moment verdict p s)
  by_reply_state p (Kept reply) = refl
  by_reply_state p (Awaited draft) = refl
  by_reply_state p Late = refl

  by_prior : (o : Option Prior) →
      decision_of_prior moment verdict o ≡ widened_decision (decision_of_prior moment verdict o)
  by_prior None = refl
  by_prior (Some p) = by_reply_state p p.reply_state

  pub answer_widened : (k : Known) (o : Option Merchant) →
      decision_of_answer k moment verdict o
      ≡ widened_decision (decision_of_answer k moment verdict o)
  answer_widened k None = refl
  answer_widened k (Some merchant) = by_prior k.referred

pub enrolment_widened : (merchant : Merchant) (o : Option Merchant) →
    decision_of_enrolment merchant o ≡ widened_decision (decision_of_enrolment merchant o)
enrolment_widened merchant None = refl
enrolment_widened merchant (Some enrolled) = refl

pub terminal_widened : (terminal : Terminal) (there : Bool) (o : Option Merchant) →
    decision_of_terminal terminal there o
    ≡ widened_decision (decision_of_terminal terminal there o)
terminal_widened terminal there None = refl
terminal_widened terminal there (Some merchant) =
    elim there
    as (λ b. decision_of_terminal terminal b (Some merchant)
    ≡ widened_decision (decision_of_terminal terminal b (Some merchant))) [
      | true ↦ refl
      | false ↦ refl
    ]

-- ---- what comes of a decision

pub outcome_kept : (k : Known) (d : Decision) →
    outcome_of (widened_known k) (widened_decision d) ≡ outcome_of k d
outcome_kept k (Reports o) = refl
outcome_kept k (Replies r code) = refl
outcome_kept k (Repeats reply) = refl
outcome_kept k (Refuses r code) = refl
outcome_kept k (Admits r range reference) = refl
outcome_kept k (Completes r hold) = refl
outcome_kept k (Reverses r p) = refl
outcome_kept k (Reconciles r day) = refl
outcome_kept k (Answers moment verdict p draft) = refl
outcome_kept k CutsOver = refl
outcome_kept k (AddsRange range) = refl
outcome_kept k (DropsRange low high) = refl
outcome_kept k (Enrols merchant) = refl
outcome_kept k (AddsTerminal terminal) = refl

pub change_widened : (t : Tables) (k : Known) (d : Decision) →
    after_any (widened_tables t) (change_of (widened_known k) (widened_decision d))
    ≡ widened_tables (after_any t (change_of k d))
change_widened t k (Reports o) = refl
change_widened t k (Replies r code) = refl
change_widened t k (Repeats reply) = refl
change_widened t k (Refuses r code) = refl
change_widened t k (Admits r range reference) = refl
change_widened t k (Completes r hold) = refl
change_widened t k (Reverses r p) = refl
change_widened t k (Reconciles r day) = refl
change_widened t k (Answers moment verdict p draft) = refl
change_widened t k CutsOver = refl
change_widened t k (AddsRange range) =
    ap (λ ranges. record t { ranges = ranges }) (with_widened t.ranges range)
change_widened t k (DropsRange low high) =
    ap (λ ranges. record t { ranges = ranges }) (without_widened t.ranges low high)
change_widened t k (Enrols merchant) = refl
change_widened t k (AddsTerminal terminal) = refl
