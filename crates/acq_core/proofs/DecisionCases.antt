-- By cases over a decision: what holds in each case that the checks can end in holds of what is
-- decided.
use Rattle.std.proofs.Common.{◌≡◌, ℕ, ◌+◌, List, [], ◌∷◌, Option, Some, None, Bool, true, false}
use Rattle.std.proofs.Common.{◌⊎◌, inl, inr, refl, sym, ◌∙◌}
use Rattle.std.specs.Prelude.{not, nat_lt, if◌then◌else◌}
use Rattle.std.specs.List.{list_all}
use Rattle.std.specs.Str.{bytes_eq}
use Rattle.std.proofs.lemmas.Bool.{and_parts}
use Rattle.iso_codec.specs.Message.{IsoMessage, content_of}
use Rattle.card_no.specs.declared.range.Range.{Range}
use Rattle.card_no.specs.CardNumbers.{is_valid_card}
use Rattle.acq_message.specs.declared.service.Service.{Service}
use Rattle.acq_message.specs.declared.service.Service.TheVariants.{Authorization, Financial}
use Rattle.acq_message.specs.declared.service.Service.TheVariants.{Completion, Reversal}
use Rattle.acq_message.specs.declared.service.Service.TheVariants.{ReversalAdvice, Reconciliation}
use Rattle.acq_message.specs.declared.service.Service.TheVariants.{NetworkManagement}
use Rattle.acq_core.specs.declared.merchant.Merchant.{Merchant}
use Rattle.acq_core.specs.declared.output.Output.{Output}
use Rattle.acq_core.specs.declared.output.Output.TheVariants as output
use Rattle.acq_message.specs.declared.verdict.Verdict.{Verdict}
use Rattle.acq_message.specs.declared.response_code.ResponseCode.{ResponseCode}
use Rattle.acq_message.specs.declared.response_code.ResponseCode.TheVariants as code
use Rattle.acq_message.specs.Numbers.{is_accepted_amount}
use Rattle.acq_message.specs.Elements.{amount_in, or_empty, essence_of, original_acquirer}
use Rattle.acq_message.specs.Elements.{remaining_in}
use Rattle.acq_message.specs.Cards.{card_of, expiry_of}
use Rattle.acq_message.specs.declared.request_message.RequestMessage.{RequestMessage}
use Rattle.acq_core.specs.Known.{Known, Prior, reconciled_day}
use Rattle.acq_core.specs.declared.reply_state.ReplyState.{ReplyState}
use Rattle.acq_core.specs.declared.reply_state.ReplyState.TheVariants.{Kept, Awaited, Late}
use Rattle.acq_core.specs.Decision.{Decision, Reports, Replies, Refuses, Admits, Completes}
use Rattle.acq_core.specs.Decision.{Reverses, Reconciles, Answers, first_of, is_full}
use Rattle.acq_core.specs.Decision.{is_other_transaction, is_expired, is_open_at, open_hold}
use Rattle.acq_core.specs.Decision.{fits_acquirer, original_of, admission_in, admission}
use Rattle.acq_core.specs.Decision.{completion_of, completion, reversal_of, reconciliation_of}
use Rattle.acq_core.specs.Decision.{is_final_for, leaves_a_part}
use Rattle.acq_core.specs.Decision.{network_response, decision_by, repeat_of, decision_of_key}
use Rattle.acq_core.specs.Decision.{decision_of_merchant, decision_of_request}
use Rattle.acq_core.specs.Decision.{decision_of_reply_state, decision_of_prior, decision_of_answer}

-- ---- requests

-- the codes under which a request is recorded as refused
abbrev pub is_refusal : ResponseCode → Bool
is_refusal code.Approved = false
is_refusal code.FormatError = false
is_refusal code.InvalidMerchant = false
is_refusal given = true

-- an enrolled merchant's terminal sends a request that is recorded, and its key is new
pub record IsFresh (k : Known) (r : RequestMessage) (merchant : Merchant) : Type 0 where
  pub recordable : r.service ≡ NetworkManagement → ⊥
  pub enrolled : k.merchant ≡ Some merchant
  pub terminal : k.has_terminal ≡ true
  pub new : k.recorded ≡ None

-- the checks of a reversal passed this original
pub record CanBeReversed (r : RequestMessage) (p : Prior) : Type 0 where
  pub not_final : is_final_for (remaining_in r.message) p ≡ false
  pub less : leaves_a_part (amount_in r.message) (remaining_in r.message) p ≡ true

-- what is to be shown of each decision on a request
pub record RequestCases (k : Known) (r : RequestMessage) (P : Decision → Type 0) : Type 0 where
  -- nothing is recorded
  pub managed : r.service ≡ NetworkManagement → P (Replies r (network_response r.message))
  pub unknown : P (Replies r code.InvalidMerchant)
  pub duplicate : (p : Prior) → k.recorded ≡ Some p → P (Replies r code.DuplicateTransmission)
  pub repeated : (p : Prior) → k.recorded ≡ Some p → P (repeat_of p.reply_state)
  -- the request is recorded
  pub refused : (merchant : Merchant) → IsFresh k r merchant →
      (given : ResponseCode) → is_refusal given ≡ true → P (Refuses r given)
  pub admitted : (merchant : Merchant) → IsFresh k r merchant →
      (r.service ≡ Authorization) ⊎ (r.service ≡ Financial) → (range : Range) →
      k.range ≡ Some range →
      P (Admits r range (merchant.first_reference + k.admitted))
  pub completed : (merchant : Merchant) → IsFresh k r merchant → r.service ≡ Completion →
      (hold : Prior) → k.referred ≡ Some hold → is_open_at r.moment hold.hold_end ≡ true →
      P (Completes r hold)
  pub reversed : (merchant : Merchant) → IsFresh k r merchant →
      (r.service ≡ Reversal) ⊎ (r.service ≡ ReversalAdvice) →
      (p : Prior) → k.original ≡ Some p → CanBeReversed r p → P (Reverses r p)
  pub reconciled : (merchant : Merchant) → IsFresh k r merchant → r.service ≡ Reconciliation →
      (day : ℕ) → reconciled_day k.today (content_of r.message.elements 15) ≡ Some day →
      P (Reconciles r day)

-- one of the refusals, or what is accepted after them
by_refusals : (P : Decision → Type 0) (r : RequestMessage) →
    (refusals : List (Bool × ResponseCode)) (accepted : Decision) →
    ((given : ResponseCode) → is_refusal given ≡ true → P (Refuses r given)) →
    list_all (λ x. is_refusal x.1) refusals ≡ true → P accepted → P (first_of r refusals accepted)
by_refusals P r [] accepted refuse all accept = accept
by_refusals P r (x ∷ xs) accepted refuse all accept =
    let parts = and_parts (is_refusal x.1) (list_all (λ y. is_refusal y.1) xs) all in
    elim x.0 as (λ b. P (if b then Refuses r x.1 else first_of r xs accepted)) [
      | true ↦ refuse x.1 parts.0
      | false ↦ by_refusals P r xs accepted refuse parts.1 accept
    ]

module _ (k : Known) (r : RequestMessage) (P : Decision → Type 0) (cases : RequestCases k r P) where
  -- ---- by service

  by_range : (merchant : Merchant) → IsFresh k r merchant →
      (r.service ≡ Authorization) ⊎ (r.service ≡ Financial) →
      (o : Option Range) → k.range ≡ o → P (admission_in k merchant r o)
  by_range merchant fresh service None is = cases.refused merchant fresh code.NoSuchIssuer refl
  by_range merchant fresh service (Some range) is =
      by_refusals P r ((is_full k, code.LimitExceeded) ∷ []) (Admits r range
      (merchant.first_reference + k.admitted))
      (cases.refused merchant fresh) refl (cases.admitted merchant fresh service range is)

  by_admission : (merchant : Merchant) → IsFresh k r merchant →
      (r.service ≡ Authorization) ⊎ (r.service ≡ Financial) →
      P (admission k merchant r)
  by_admission merchant fresh service =
      by_refusals P r (
      (is_other_transaction merchant r, code.InvalidTransaction)
      ∷ (not (is_accepted_amount (amount_in r.message)), code.InvalidAmount)
      ∷ (not (is_valid_card (or_empty (card_of r.message))), code.InvalidCard)
      ∷ (is_expired k.today (expiry_of r.message), code.ExpiredCard)
      ∷ []
      ) (admission_in k merchant r k.range)
      (cases.refused merchant fresh) refl (by_range merchant fresh service k.range refl)

  by_hold : (merchant : Merchant) → IsFresh k r merchant → r.service ≡ Completion →
      (o : Option Prior) → k.referred ≡ o → P (completion_of k r (open_hold r.moment o))
  by_hold merchant fresh service None is = cases.refused merchant fresh code.RecordNotFound refl
  by_hold merchant fresh service (Some hold) is =
      let later : List (Bool × ResponseCode) =
      (nat_lt hold.amount (amount_in r.message), code.InvalidAmount)
      ∷ (is_full k, code.LimitExceeded) ∷ [] in
      let step : (b : Bool) → is_open_at r.moment hold.hold_end ≡ b →
      P (completion_of k r (if b then Some hold else None)) =
      elim [
        | true ↦ (λ opens. by_refusals P r later (Completes r hold)
            (cases.refused merchant fresh) refl
            (cases.completed merchant fresh service hold is opens))
        | false ↦ (λ shut. cases.refused merchant fresh code.RecordNotFound refl)
      ] in
      step (is_open_at r.moment hold.hold_end) refl

  by_completion : (merchant : Merchant) → IsFresh k r merchant → r.service ≡ Completion →
      P (completion k merchant r)
  by_completion merchant fresh service =
      by_refusals P r (
      (is_other_transaction merchant r, code.InvalidTransaction)
      ∷ (not (is_accepted_amount (amount_in r.message)), code.InvalidAmount)
      ∷ []
      ) (completion_of k r (open_hold r.moment k.referred))
      (cases.refused merchant fresh) refl (by_hold merchant fresh service k.referred refl)

  by_original : (merchant : Merchant) → IsFresh k r merchant →
      (r.service ≡ Reversal) ⊎ (r.service ≡ ReversalAdvice) →
      (o : Option Prior) → k.original ≡ o → P (reversal_of k r (original_of r.message o))
  by_original merchant fresh service None is = cases.refused merchant fresh code.RecordNotFound refl
  by_original merchant fresh service (Some p) is =
      let remaining = remaining_in r.message in
      let full : List (Bool × ResponseCode) = (is_full k, code.LimitExceeded) ∷ [] in
      let refuse = cases.refused merchant fresh in
      let in_part : (b : Bool) → leaves_a_part (amount_in r.message) remaining p ≡ b →
      is_final_for remaining p ≡ false →
      P (first_of r ((not b, code.InvalidAmount) ∷ full) (Reverses r p)) =
      elim [
        | true ↦ (λ less going. by_refusals P r full (Reverses r p) refuse refl
            (cases.reversed merchant fresh service p is (record { not_final = going; less = less })))
        | false ↦ (λ less going. refuse code.InvalidAmount refl)
      ] in
      let later : List (Bool × ResponseCode) =
      (not (leaves_a_part (amount_in r.message) remaining p), code.InvalidAmount) ∷ full in
      let reversal : (b : Bool) → is_final_for remaining p ≡ b →
      P (first_of r ((b, code.NoActionTaken) ∷ later) (Reverses r p)) =
      elim [
        | true ↦ (λ final. refuse code.NoActionTaken refl)
        | false ↦ in_part (leaves_a_part (amount_in r.message) remaining p) refl
      ] in
      elim (fits_acquirer (original_acquirer r.message) p.acquirer)
      as (λ b. P (reversal_of k r (if b then Some p else None))) [
        | true ↦ reversal (is_final_for remaining p) refl
        | false ↦ refuse code.RecordNotFound refl
      ]

  by_day : (merchant : Merchant) → IsFresh k r merchant → r.service ≡ Reconciliation →
      (o : Option ℕ) → reconciled_day k.today (content_of r.message.elements 15) ≡ o →
      P (reconciliation_of r o)
  by_day merchant fresh service None is = cases.refused merchant fresh code.ReconcileError refl
  by_day merchant fresh service (Some day) is = cases.reconciled merchant fresh service day is

  by_service : (merchant : Merchant) → IsFresh k r merchant → (s : Service) → r.service ≡ s →
      P (decision_by s k merchant r)
  by_service merchant fresh Authorization is = by_admission merchant fresh (inl is)
  by_service merchant fresh Financial is = by_admission merchant fresh (inr is)
  by_service merchant fresh Completion is = by_completion merchant fresh is
  by_service merchant fresh Reversal is = by_original merchant fresh (inl is) k.original refl
  by_service merchant fresh ReversalAdvice is = by_original merchant fresh (inr is) k.original refl
  by_service merchant fresh Reconciliation is = by_day merchant fresh is _ refl
  by_service merchant fresh NetworkManagement is = absurd (fresh.recordable is)

  -- ---- before that

  by_key : (merchant : Merchant) → (r.service ≡ NetworkManagement → ⊥) →
      k.merchant ≡ Some merchant → k.has_terminal ≡ true → (o : Option Prior) → k.recorded ≡ o →
      P (decision_of_key r o (decision_by r.service k merchant r))
  by_key merchant recordable there terminal None is =
      let fresh : IsFresh k r merchant =
      record { recordable = recordable; enrolled = there; terminal = terminal; new = is } in
      by_service merchant fresh r.service refl
  by_key merchant recordable there terminal (Some p) is =
      elim (bytes_eq (essence_of r.service r.message) p.essence)
      as (λ b. P (if b then repeat_of p.reply_state else Replies r code.DuplicateTransmission)) [
        | true ↦ cases.repeated p is
        | false ↦ cases.duplicate p is
      ]

  by_merchant : (r.service ≡ NetworkManagement → ⊥) → (o : Option Merchant) → k.merchant ≡ o →
      P (decision_of_merchant k r o)
  by_merchant recordable None is = cases.unknown
  by_merchant recordable (Some merchant) is =
      let fresh = decision_by r.service k merchant r in
      let step : (b : Bool) → k.has_terminal ≡ b →
      P (if b then decision_of_key r k.recorded fresh else Replies r code.InvalidMerchant) =
      elim [
        | true ↦ (λ terminal. by_key merchant recordable is terminal k.recorded refl)
        | false ↦ (λ terminal. cases.unknown)
      ] in
      step k.has_terminal refl

  by_recordable : (s : Service) → r.service ≡ s → P (decision_of_request s k r)
  by_recordable NetworkManagement is = cases.managed is
  by_recordable Authorization is = by_merchant (λ n. absurd (let h = sym is ∙ n in cc)) k.merchant
      refl
  by_recordable Financial is = by_merchant (λ n. absurd (let h = sym is ∙ n in cc)) k.merchant refl
  by_recordable Completion is = by_merchant (λ n. absurd (let h = sym is ∙ n in cc)) k.merchant refl
  by_recordable Reversal is = by_merchant (λ n. absurd (let h = sym is ∙ n in cc)) k.merchant refl
  by_recordable ReversalAdvice is = by_merchant (λ n. absurd (let h = sym is ∙ n in cc)) k.merchant
      refl
  by_recordable Reconciliation is = by_merchant (λ n. absurd (let h = sym is ∙ n in cc)) k.merchant
      refl

  -- what holds in each case holds of what is decided on the request
  pub by_request : P (decision_of_request r.service k r)
  by_request = by_recordable r.service refl

-- ---- answers

-- what is to be shown of each decision on an answer: it isn't taken, or it answers a pending
-- request
pub record AnswerCases (k : Known) (moment : ℕ) (verdict : Verdict) (P : Decision →
    Type 0) : Type 0 where
  pub not_taken : (o : Output) → P (Reports o)
  pub taken : (p : Prior) (draft : IsoMessage) → k.referred ≡ Some p →
      p.reply_state ≡ Awaited draft →
      P (Answers moment verdict p draft)

module _ (k : Known) (moment : ℕ) (verdict : Verdict) (P : Decision → Type 0)
    (cases : AnswerCases k moment verdict P) where
  by_reply_state : (p : Prior) → k.referred ≡ Some p → (s : ReplyState) → p.reply_state ≡ s →
      P (decision_of_reply_state moment verdict p s)
  by_reply_state p found (Kept reply) is = cases.not_taken output.AlreadyAnswered
  by_reply_state p found (Awaited draft) is = cases.taken p draft found is
  by_reply_state p found Late is = cases.not_taken output.Late

  by_reference : (o : Option Prior) → k.referred ≡ o → P (decision_of_prior moment verdict o)
  by_reference None is = cases.not_taken output.UnknownReference
  by_reference (Some p) is = by_reply_state p is p.reply_state refl

  -- what holds in each case holds of what is decided on the answer, whoever its merchant is
  pub by_answer : (o : Option Merchant) → P (decision_of_answer k moment verdict o)
  by_answer None = cases.not_taken output.NoSuchMerchant
  by_answer (Some merchant) = by_reference k.referred refl
