-- Each decision on a request, by its reason: the code is the reason's, and what that says is true.
use Rattle.std.proofs.Common.{◌≡◌, ℕ, ◌+◌, ◌==◌, Option, Some, None, Bool, true, false}
use Rattle.std.proofs.Common.{◌⊎◌, inl, inr, refl, sym, ap, subst}
use Rattle.std.specs.Prelude.{not, nat_lt, ◌||◌, ◌&&◌, if◌then◌else◌, IfSome}
use Rattle.std.specs.List.{list_all}
use Rattle.std.specs.Char.{is_ascii_digit}
use Rattle.std.specs.Str.{bytes_eq}
use Rattle.std.proofs.lemmas.Bool.{cases_Bool}
use Rattle.iso_codec.specs.Message.{IsoMessage, content_of}
use Rattle.card_no.specs.declared.range.Range.{Range}
use Rattle.card_no.specs.CardNumbers.{is_valid_card}
use Rattle.acq_message.specs.declared.service.Service.{Service}
use Rattle.acq_message.specs.declared.service.Service.TheVariants.{Authorization, Financial}
use Rattle.acq_message.specs.declared.service.Service.TheVariants.{Completion, Reversal}
use Rattle.acq_message.specs.declared.service.Service.TheVariants.{ReversalAdvice, Reconciliation}
use Rattle.acq_message.specs.declared.service.Service.TheVariants.{NetworkManagement}
use Rattle.acq_message.specs.declared.request_message.RequestMessage.{RequestMessage}
use Rattle.acq_message.specs.declared.response_code.ResponseCode.{ResponseCode}
use Rattle.acq_message.specs.declared.response_code.ResponseCode.TheVariants as code
use Rattle.acq_message.specs.Numbers.{is_accepted_amount}
use Rattle.acq_message.specs.Elements.{text_at, or_empty, amount_in, remaining_in, essence_of}
use Rattle.acq_message.specs.Elements.{original_acquirer}
use Rattle.acq_message.specs.Cards.{card_of, expiry_of}
use Rattle.acq_core.specs.declared.merchant.Merchant.{Merchant}
use Rattle.acq_core.specs.declared.reply_state.ReplyState.{ReplyState}
use Rattle.acq_core.specs.declared.reply_state.ReplyState.TheVariants.{Kept, Awaited, Late}
use Rattle.acq_core.specs.Known.{Known, Prior, reconciled_day}
use Rattle.acq_core.specs.Decision.{Decision, Replies, Refuses, Admits, Completes, Reverses}
use Rattle.acq_core.specs.Decision.{is_full, is_expired, is_open_at, open_hold, fits_acquirer}
use Rattle.acq_core.specs.Decision.{original_of, is_final_for, is_network_code}
use Rattle.acq_core.specs.Decision.{admission, admission_in, completion, completion_of}
use Rattle.acq_core.specs.Decision.{reversal_of, reconciliation_of, network_response}
use Rattle.acq_core.specs.Decision.{decision_by, repeat_of, decision_of_key}
use Rattle.acq_core.specs.Decision.{decision_of_merchant, decision_of_request}
use Rattle.acq_core.specs.Outcome.{is_in_balance, balance_code}
use Rattle.acq_reasons.specs.declared.reason.Reason.{Reason}
use Rattle.acq_reasons.specs.declared.reason.Reason.TheVariants as reason
use Rattle.acq_reasons.specs.Codes.{code_of}
use Rattle.acq_reasons.specs.Reasons.{has_other_transaction, has_other_currency, is_approval}
use Rattle.acq_reasons.specs.Reasons.{admission_reason, admission_reason_in, completion_reason}
use Rattle.acq_reasons.specs.Reasons.{completion_reason_of, no_open_hold, shut_hold, answered_hold}
use Rattle.acq_reasons.specs.Reasons.{is_hold, reversal_reason_of, no_original, final_original}
use Rattle.acq_reasons.specs.Reasons.{approved_original, unapproved_original}
use Rattle.acq_reasons.specs.Reasons.{reconciliation_reason, network_reason, reason_by}
use Rattle.acq_reasons.specs.Reasons.{key_reason, merchant_reason, request_reason}
use Rattle.acq_reasons.specs.Truths.{SaysTrue, KeptCode}
use Rattle.acq_reasons.specs.Laws.{Gives, code_made}
use Rattle.acq_reasons.proofs.FirstChecks.{not_true}

pub record Explains (k : Known) (r : RequestMessage) (why : Option Reason) (d : Decision) :
    Type 0 where
  pub gives : Gives why (code_made k d)
  pub says : IfSome why (SaysTrue k r)

approved_code : (s : Service) (o : Option ℕ) →
    code_of (approved_original s o) ≡ code.NoActionTaken
approved_code Authorization (Some hold_end) = refl
approved_code Authorization None = refl
approved_code Financial o = refl
approved_code Completion o = refl
approved_code Reversal o = refl
approved_code ReversalAdvice o = refl
approved_code Reconciliation o = refl
approved_code NetworkManagement o = refl

unapproved_code : (s : Service) (o : Option ℕ) →
    code_of (unapproved_original s o) ≡ code.NoActionTaken
unapproved_code Completion o = refl
unapproved_code Authorization None = refl
unapproved_code Authorization (Some n) = refl
unapproved_code Financial None = refl
unapproved_code Financial (Some n) = refl
unapproved_code Reversal None = refl
unapproved_code Reversal (Some n) = refl
unapproved_code ReversalAdvice None = refl
unapproved_code ReversalAdvice (Some n) = refl
unapproved_code Reconciliation None = refl
unapproved_code Reconciliation (Some n) = refl
unapproved_code NetworkManagement None = refl
unapproved_code NetworkManagement (Some n) = refl

final_code : (p : Prior) (s : ReplyState) → code_of (final_original p s) ≡ code.NoActionTaken
final_code p (Kept reply) =
    elim (cases_Bool (is_approval reply)) [
      | inl approves ↦ rw approves (approved_code p.key.service p.hold_end)
      | inr declines ↦ rw declines (unapproved_code p.key.service p.reference)
    ]
final_code p (Awaited draft) = refl
final_code p Late = refl

module _ (k : Known) (r : RequestMessage) where
  -- ---- one check, or two that the decision makes as one

  refuses : (why : Reason) (given : ResponseCode) → code_of why ≡ given → SaysTrue k r why →
      Explains k r (Some why) (Refuses r given)
  refuses why given is says = record { gives = ap Some (sym is); says = says }

  replies : (why : Reason) (given : ResponseCode) → code_of why ≡ given → SaysTrue k r why →
      Explains k r (Some why) (Replies r given)
  replies why given is says = record { gives = ap Some (sym is); says = says }

  goes_on : (d : Decision) → (code_made k d ≡ None) ⊎ (code_made k d ≡ Some code.Approved) →
      Explains k r None d
  goes_on d is = record { gives = is; says = tt }

  check : (b : Bool) (why : Reason) (given : ResponseCode) (later : Option Reason) (d : Decision) →
      code_of why ≡ given → (b ≡ true → SaysTrue k r why) → Explains k r later d →
      Explains k r (if b then Some why else later) (if b then Refuses r given else d)
  check true why given later d is says rest = refuses why given is (says refl)
  check false why given later d is says rest = rest

  either : (a b : Bool) (why other : Reason) (given : ResponseCode) (later : Option Reason)
      (d : Decision) → code_of why ≡ given → code_of other ≡ given →
      (a ≡ true → SaysTrue k r why) → (b ≡ true → SaysTrue k r other) → Explains k r later d →
      Explains k r (if a then Some why else if b then Some other else later)
      (if (a || b) then Refuses r given else d)
  either true b why other given later d is is_other says says_other rest =
      refuses why given is (says refl)
  either false b why other given later d is is_other says says_other rest =
      check b other given later d is_other says_other rest

  both : (a b : Bool) (why other : Reason) (given : ResponseCode) (later : Option Reason)
      (d : Decision) → code_of why ≡ given → code_of other ≡ given →
      (a ≡ false → SaysTrue k r why) → (b ≡ false → SaysTrue k r other) → Explains k r later d →
      Explains k r (if not a then Some why else if not b then Some other else later)
      (if not (a && b) then Refuses r given else d)
  both false b why other given later d is is_other says says_other rest =
      refuses why given is (says refl)
  both true false why other given later d is is_other says says_other rest =
      refuses other given is_other (says_other refl)
  both true true why other given later d is is_other says says_other rest = rest

  full : (d : Decision) → (code_made k d ≡ None) ⊎ (code_made k d ≡ Some code.Approved) →
      Explains k r (if is_full k then Some reason.DayFull else None)
      (if is_full k then Refuses r code.LimitExceeded else d)
  full d is =
      check (is_full k) reason.DayFull code.LimitExceeded None d refl (λ h. h) (goes_on d is)

  -- ---- by service

  admitted : (merchant : Merchant) (o : Option Range) → k.range ≡ o →
      Explains k r (admission_reason_in k o) (admission_in k merchant r o)
  admitted merchant None none = refuses reason.NoRange code.NoSuchIssuer refl none
  admitted merchant (Some range) is =
      full (Admits r range (merchant.first_reference + k.admitted)) (inl refl)

  accepted_amount : (later : Option Reason) (d : Decision) → Explains k r later d →
      Explains k r
      (if not (is_accepted_amount (amount_in r.message)) then Some reason.AmountOutOfRange else later)
      (if not (is_accepted_amount (amount_in r.message)) then Refuses r code.InvalidAmount else d)
  accepted_amount later d =
      check (not (is_accepted_amount (amount_in r.message))) reason.AmountOutOfRange
      code.InvalidAmount later d refl (not_true (is_accepted_amount (amount_in r.message)))

  by_admission : (merchant : Merchant) → k.merchant ≡ Some merchant →
      Explains k r (admission_reason k merchant r) (admission k merchant r)
  by_admission merchant there =
      either (has_other_transaction r) (has_other_currency merchant r) reason.OtherTransaction
      reason.OtherCurrency code.InvalidTransaction _ _ refl refl (λ h. h) (λ h. (merchant, there, h))
      (accepted_amount _ _
      (check (not (is_valid_card (or_empty (card_of r.message)))) reason.InvalidCard
      code.InvalidCard _ _ refl (not_true (is_valid_card (or_empty (card_of r.message))))
      (check (is_expired k.today (expiry_of r.message)) reason.ExpiredCard code.ExpiredCard _ _
      refl (λ h. h)
      (admitted merchant k.range refl))))

  -- ---- a completion

  module _ (p : Prior) (there : k.referred ≡ Some p) where
    by_kept_hold : is_hold p.key.service ≡ true → is_open_at r.moment p.hold_end ≡ false →
        (reply : IsoMessage) → p.reply_state ≡ Kept reply → (o : Option ℕ) → p.hold_end ≡ o →
        Explains k r (Some (answered_hold o reply)) (Refuses r code.RecordNotFound)
    by_kept_hold hold shut reply kept (Some hold_end) is =
        refuses reason.HoldExpired code.RecordNotFound refl (p, there, (hold, (hold_end, is, shut)))
    by_kept_hold hold shut reply kept None none =
        elim (cases_Bool (is_approval reply)) [
          | inl approves ↦ rw approves
              (refuses reason.HoldEnded code.RecordNotFound refl
              (p, there, (hold, (none, (reply, kept, approves)))))
          | inr declines ↦ rw declines
              (refuses reason.HoldDeclined code.RecordNotFound refl
              (p, there, (hold, (none, (reply, kept, declines)))))
        ]

    by_shut_hold : is_hold p.key.service ≡ true → is_open_at r.moment p.hold_end ≡ false →
        (s : ReplyState) → p.reply_state ≡ s →
        Explains k r (Some (shut_hold p s)) (Refuses r code.RecordNotFound)
    by_shut_hold hold shut (Kept reply) is = by_kept_hold hold shut reply is p.hold_end refl
    by_shut_hold hold shut (Awaited draft) is =
        refuses reason.HoldWaits code.RecordNotFound refl (p, there, (hold, (draft, is)))
    by_shut_hold hold shut Late is =
        refuses reason.HoldReversedEarly code.RecordNotFound refl (p, there, (hold, is))

    no_hold : is_open_at r.moment p.hold_end ≡ false →
        Explains k r (Some (no_open_hold r (Some p))) (Refuses r code.RecordNotFound)
    no_hold shut =
        elim (cases_Bool (is_hold p.key.service)) [
          | inl hold ↦ rw hold (by_shut_hold hold shut p.reply_state refl)
          | inr sale ↦ rw sale
              (refuses reason.NotAHold code.RecordNotFound refl (p, there, sale))
        ]

  no_reference : k.referred ≡ None →
      Explains k r (Some (no_open_hold r None)) (Refuses r code.RecordNotFound)
  no_reference none =
      elim (cases_Bool (list_all is_ascii_digit (text_at r.message 37))) [
        | inl digits ↦ rw digits
            (refuses reason.NoSuchReference code.RecordNotFound refl none)
        | inr others ↦ rw others
            (refuses reason.BadReference code.RecordNotFound refl others)
      ]

  by_hold : (o : Option Prior) → k.referred ≡ o →
      Explains k r (completion_reason_of k r (open_hold r.moment o))
      (completion_of k r (open_hold r.moment o))
  by_hold None none =
      subst (λ (o : Option Prior). Explains k r (Some (no_open_hold r o))
      (Refuses r code.RecordNotFound)) (sym none) (no_reference none)
  by_hold (Some p) there =
      elim (cases_Bool (is_open_at r.moment p.hold_end)) [
        | inl opens ↦ rw opens
            (check (nat_lt p.amount (amount_in r.message)) reason.AboveHold code.InvalidAmount _ _
            refl (λ h. (p, there, (opens, h))) (full (Completes r p) (inr refl)))
        | inr shut ↦ rw shut
            (subst (λ (o : Option Prior). Explains k r (Some (no_open_hold r o))
            (Refuses r code.RecordNotFound)) (sym there) (no_hold p there shut))
      ]

  by_completion : (merchant : Merchant) → k.merchant ≡ Some merchant →
      Explains k r (completion_reason k merchant r) (completion k merchant r)
  by_completion merchant there =
      either (has_other_transaction r) (has_other_currency merchant r) reason.OtherTransaction
      reason.OtherCurrency code.InvalidTransaction _ _ refl refl (λ h. h) (λ h. (merchant, there, h))
      (accepted_amount _ _ (by_hold k.referred refl))

  -- ---- a reversal

  module _ (p : Prior) (there : k.original ≡ Some p) where
    module _ (final : is_final_for (remaining_in r.message) p ≡ true) where
      approved_says : KeptCode true p → (s : Service) → p.key.service ≡ s →
          (o : Option ℕ) → p.hold_end ≡ o → SaysTrue k r (approved_original s o)
      approved_says approves Authorization same (Some hold_end) is =
          (p, there, (final, (ap is_hold same, hold_end, is, approves)))
      approved_says approves Authorization same None is =
          (p, there, (final, (ap is_hold same, is, approves)))
      approved_says approves Financial same o is = (p, there, (final, inr approves))
      approved_says approves Completion same o is = (p, there, (final, inr approves))
      approved_says approves Reversal same o is = (p, there, (final, inr approves))
      approved_says approves ReversalAdvice same o is = (p, there, (final, inr approves))
      approved_says approves Reconciliation same o is = (p, there, (final, inr approves))
      approved_says approves NetworkManagement same o is = (p, there, (final, inr approves))

      refused : (p.key.service ≡ Completion) ⊎ (p.reference ≡ None) → KeptCode false p →
          SaysTrue k r reason.OriginalRefused
      refused by declines = (p, there, (final, (by, declines)))

      declined : (reference : ℕ) → p.reference ≡ Some reference → KeptCode false p →
          SaysTrue k r reason.OriginalDeclined
      declined reference is declines = (p, there, (final, (reference, is, declines)))

      unapproved_says : KeptCode false p → (s : Service) → p.key.service ≡ s →
          (o : Option ℕ) → p.reference ≡ o → SaysTrue k r (unapproved_original s o)
      unapproved_says declines Completion same o is = refused (inl same) declines
      unapproved_says declines Authorization same None is = refused (inr is) declines
      unapproved_says declines Authorization same (Some n) is = declined n is declines
      unapproved_says declines Financial same None is = refused (inr is) declines
      unapproved_says declines Financial same (Some n) is = declined n is declines
      unapproved_says declines Reversal same None is = refused (inr is) declines
      unapproved_says declines Reversal same (Some n) is = declined n is declines
      unapproved_says declines ReversalAdvice same None is = refused (inr is) declines
      unapproved_says declines ReversalAdvice same (Some n) is = declined n is declines
      unapproved_says declines Reconciliation same None is = refused (inr is) declines
      unapproved_says declines Reconciliation same (Some n) is = declined n is declines
      unapproved_says declines NetworkManagement same None is = refused (inr is) declines
      unapproved_says declines NetworkManagement same (Some n) is = declined n is declines

      final_says : (s : ReplyState) → p.reply_state ≡ s → SaysTrue k r (final_original p s)
      final_says (Kept reply) is =
          elim (cases_Bool (is_approval reply)) [
            | inl approves ↦ rw approves
                (approved_says (reply, is, approves) p.key.service refl p.hold_end refl)
            | inr declines ↦ rw declines
                (unapproved_says (reply, is, declines) p.key.service refl p.reference refl)
          ]
      final_says (Awaited draft) is = (p, there, (final, (draft, is)))
      final_says Late is = (p, there, (final, inl is))

  by_original : (o : Option Prior) → k.original ≡ o →
      Explains k r (reversal_reason_of k r (original_of r.message o))
      (reversal_of k r (original_of r.message o))
  by_original None none =
      subst (λ (o : Option Prior). Explains k r (Some (no_original o))
      (Refuses r code.RecordNotFound)) (sym none)
      (refuses reason.NoOriginal code.RecordNotFound refl none)
  by_original (Some p) there =
      elim (cases_Bool (fits_acquirer (original_acquirer r.message) p.acquirer)) [
        | inl fits ↦ rw fits
            (check (is_final_for (remaining_in r.message) p) (final_original p p.reply_state)
            code.NoActionTaken _ _ (final_code p p.reply_state)
            (λ final. final_says p there final p.reply_state refl)
            (both (amount_in r.message == p.amount) (nat_lt (remaining_in r.message) p.amount)
            reason.OtherAmount reason.NothingTaken code.InvalidAmount _ _ refl refl
            (λ h. (p, there, h)) (λ h. (p, there, h)) (full (Reverses r p) (inr refl))))
        | inr other ↦ rw other
            (subst (λ (o : Option Prior). Explains k r (Some (no_original o))
            (Refuses r code.RecordNotFound)) (sym there)
            (refuses reason.OtherAcquirer code.RecordNotFound refl (p, there, other)))
      ]

  -- ---- a reconciliation, and network management

  by_day : (o : Option ℕ) → reconciled_day k.today (content_of r.message.elements 15) ≡ o →
      Explains k r (reconciliation_reason k r o) (reconciliation_of r o)
  by_day None none = refuses reason.NoSuchDay code.ReconcileError refl none
  by_day (Some day) is =
      elim (cases_Bool (is_in_balance k r)) [
        | inl balances ↦ rw balances
            (record { gives = inr (ap (λ b. Some (balance_code b)) balances); says = tt })
        | inr differs ↦ rw differs
            (record { gives = ap (λ b. Some (balance_code b)) differs; says = differs })
      ]

  by_network : Explains k r (network_reason r.message) (Replies r (network_response r.message))
  by_network =
      elim (cases_Bool (is_network_code (content_of r.message.elements 70))) [
        | inl served ↦ rw served (goes_on (Replies r code.Approved) (inr refl))
        | inr other ↦ rw other
            (replies reason.UnknownNetworkCode code.InvalidTransaction refl other)
      ]

  by_service : (merchant : Merchant) → k.merchant ≡ Some merchant → (s : Service) →
      r.service ≡ s → Explains k r (reason_by s k merchant r) (decision_by s k merchant r)
  by_service merchant there Authorization is = by_admission merchant there
  by_service merchant there Financial is = by_admission merchant there
  by_service merchant there Completion is = by_completion merchant there
  by_service merchant there Reversal is = by_original k.original refl
  by_service merchant there ReversalAdvice is = by_original k.original refl
  by_service merchant there Reconciliation is =
      by_day (reconciled_day k.today (content_of r.message.elements 15)) refl
  by_service merchant there NetworkManagement is = by_network

  -- ---- the checks before

  kept : (s : ReplyState) → code_made k (repeat_of s) ≡ None
  kept (Kept reply) = refl
  kept (Awaited draft) = refl
  kept Late = refl

  by_key : (merchant : Merchant) → k.merchant ≡ Some merchant → (o : Option Prior) →
      k.recorded ≡ o →
      Explains k r (key_reason r o (reason_by r.service k merchant r))
      (decision_of_key r o (decision_by r.service k merchant r))
  by_key merchant there None none = by_service merchant there r.service refl
  by_key merchant there (Some p) is =
      elim (cases_Bool (bytes_eq (essence_of r.service r.message) p.essence)) [
        | inl same ↦ rw same (goes_on (repeat_of p.reply_state) (inl (kept p.reply_state)))
        | inr other ↦ rw other
            (replies reason.OtherRequest code.DuplicateTransmission refl (p, is, other))
      ]

  by_merchant : (o : Option Merchant) → k.merchant ≡ o →
      Explains k r (merchant_reason k r o) (decision_of_merchant k r o)
  by_merchant None none = replies reason.UnknownMerchant code.InvalidMerchant refl none
  by_merchant (Some merchant) there =
      let why = key_reason r k.recorded (reason_by r.service k merchant r) in
      let fresh = decision_of_key r k.recorded (decision_by r.service k merchant r) in
      let step : (b : Bool) → k.has_terminal ≡ b →
      Explains k r (if b then why else Some reason.UnknownTerminal)
      (if b then fresh else Replies r code.InvalidMerchant) =
      elim [
        | true ↦ (λ terminal. by_key merchant there k.recorded refl)
        | false ↦ (λ none. replies reason.UnknownTerminal code.InvalidMerchant refl none)
      ] in
      step k.has_terminal refl

  pub explained : (s : Service) → Explains k r (request_reason s k r) (decision_of_request s k r)
  explained Authorization = by_merchant k.merchant refl
  explained Financial = by_merchant k.merchant refl
  explained Completion = by_merchant k.merchant refl
  explained Reversal = by_merchant k.merchant refl
  explained ReversalAdvice = by_merchant k.merchant refl
  explained Reconciliation = by_merchant k.merchant refl
  explained NetworkManagement = by_network
