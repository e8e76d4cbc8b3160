-- Requests that pass every check are admitted and accepted.
use Rattle.std.proofs.Common.{◌≡◌, ◌<◌, ◌≤◌, ℕ, ◌+◌, List, Some, None, true}
use Rattle.std.proofs.Common.{false, cond, ◌⊎◌, inl, inr, refl, sym, ap, ◌∙◌, arith}
use Rattle.std.specs.Prelude.{option_map, option_and_then, not, nat_lt, ◌&&◌, ◌||◌, ◌==◌}
use Rattle.std.specs.List.{list_any}
use Rattle.std.specs.Str.{bytes_eq}
use Rattle.std.proofs.lemmas.Bool.Decides.{nat_tests}
use Rattle.std.proofs.Math.Bool.{and-false}
use Rattle.card_no.specs.declared.range.Range.{Range}
use Rattle.card_no.specs.CardNumbers.{prefix_of}
use Rattle.acq_message.specs.declared.service.Service.{Service}
use Rattle.acq_message.specs.declared.service.Service.TheVariants.{Authorization, Financial}
use Rattle.acq_message.specs.declared.service.Service.TheVariants.{Completion, Reversal}
use Rattle.acq_message.specs.declared.service.Service.TheVariants.{ReversalAdvice}
use Rattle.acq_message.specs.declared.service.Service.TheVariants.{NetworkManagement}
use Rattle.acq_message.specs.declared.request_message.RequestMessage.{RequestMessage}
use Rattle.acq_message.specs.declared.response_code.ResponseCode.TheVariants as code
use Rattle.acq_message.specs.Cards.{card_of, expiry_of}
use Rattle.acq_message.specs.Elements.{text_at, or_empty, amount_in, transaction_in}
use Rattle.acq_message.specs.Elements.{key_of, original_key, remaining_in}
use Rattle.acq_core.specs.declared.merchant.Merchant.{Merchant}
use Rattle.acq_core.specs.declared.arrival.Arrival.TheVariants.{Requested}
use Rattle.acq_core.specs.Known.{Known, Prior, known_for, wanted_for, prefix_in}
use Rattle.acq_core.specs.Decision.{Refuses, Replies, Admits, Completes, Reverses}
use Rattle.acq_core.specs.Decision.{decision}
use Rattle.acq_core.specs.Decision.{decision_of_request, decision_of_merchant, decision_of_key}
use Rattle.acq_core.specs.Decision.{decision_by, transactions, is_other_transaction, is_full}
use Rattle.acq_core.specs.Decision.{is_expired, open_hold, original_of, admission}
use Rattle.acq_core.specs.Decision.{admission_in, completion_of, reversal_of}
use Rattle.acq_core.specs.Decision.{is_final_for, leaves_a_part, is_awaited}
use Rattle.acq_message.specs.Reply.{coded_reply, referring_reply}
use Rattle.acq_core.specs.Outcome.{Replied, outcome, outcome_of}
use Rattle.acq_core.specs.Tables.{Opening}
use Rattle.acq_soundness.specs.Requests.{is_admissible, is_reversal}
use Rattle.acq_history.specs.Entries.{Entry}
use Rattle.acq_history.specs.History.{Found, recorded, referred, prior, day_after}
use Rattle.acq_history.specs.History.{facts_of, used}
use Rattle.acq_history.specs.History.{amount_of, admitted, first_reference}
use Rattle.acq_history.specs.History.{reply_state_of}
use Rattle.acq_history.specs.PartyHistory.{known_by, history_of}
use Rattle.acq_history.specs.Acceptance as statement
use Rattle.acq_history.specs.Acceptance.{IsNewRequest, MayBeAdmitted, MayComplete, MayReverse}
use Rattle.acq_soundness.proofs.Keys.{bytes_eq_itself}

-- ---- tests that pass

-- a test of numbers
not_below : (a b : ℕ) → b ≤ a → nat_lt a b ≡ false
not_below a b h = grind (arith, nat_tests)

below_test : (a b : ℕ) → a < b → nat_lt a b ≡ true
below_test a b h = grind (arith, nat_tests)

same_test : (a b : ℕ) → a ≡ b → (a == b) ≡ true
same_test a b h = grind (arith, nat_tests)

-- a purchase in the merchant's currency
in_currency : (r : RequestMessage) (merchant : Merchant) (s : Service) → r.service ≡ s →
    list_any (bytes_eq (transaction_in r.message)) (transactions s) ≡ true →
    text_at r.message 49 ≡ merchant.currency → is_other_transaction merchant r ≡ false
in_currency r merchant s is known currency =
    (λ i. not (list_any (bytes_eq (transaction_in r.message)) (transactions (is i)))
    || not (bytes_eq (currency i) merchant.currency))
    ∙ (λ i. not (known i) || not (bytes_eq_itself merchant.currency i))

module _ (opening : Opening) (h : List Entry) (r : RequestMessage) (merchant : Merchant)
    (request : IsNewRequest opening h r merchant) where
  abbrev today : ℕ
  today = day_after opening.first_day h

  -- what a request of a service knows
  abbrev known : Service → Known
  known s = known_for (wanted_for today s r.message) (facts_of opening h)

  -- its own service decides
  new_request : (s : Service) → (s ≡ NetworkManagement → ⊥) → r.service ≡ s →
      decision (known_by opening h (Requested r)) (Requested r) ≡ decision_by s (known s) merchant r
  new_request NetworkManagement other is = absurd (other refl)
  new_request s other is =
      (λ i. decision_of_request (is i) (known (is i)) r)
      ∙ (ap (decision_of_merchant (known s) r) request.of_merchant
      ∙ (ap (λ b. cond b (decision_of_key r (known s).recorded
      (decision_by r.service (known s) merchant r)) (Replies r code.InvalidMerchant))
      request.terminal
      ∙ (λ i. decision_of_key r
      (option_map prior ((ap (λ x. recorded (key_of x r.message) h) (sym is) ∙ request.new) i))
      (decision_by (is i) (known s) merchant r))))

  -- the day has room
  has_room : nat_lt (used h today) opening.limit ≡ true
  has_room = below_test (used h today) opening.limit request.room

-- ---- admissions

module _ (opening : Opening) (h : List Entry) (r : RequestMessage) (merchant : Merchant)
    (range : Range) (may : MayBeAdmitted opening h r merchant range) where
  in_its_range : option_and_then (facts_of opening h).range (prefix_in r.message) ≡ Some range
  in_its_range =
      ap (λ b. option_and_then (facts_of opening h).range
      (cond b (Some (prefix_of (or_empty (card_of r.message)))) None)) may.valid
      ∙ may.in_range

  known_transaction : (s : Service) → r.service ≡ s → is_admissible s ≡ true →
      list_any (bytes_eq (transaction_in r.message)) (transactions s) ≡ true
  known_transaction Authorization is fits = elim may.transaction [
    | inl purchase ↦ ap (λ t. list_any (bytes_eq t) (transactions Authorization)) purchase
    | inr sale ↦ absurd (let two = sym is ∙ sale.0 in cc)
  ]
  known_transaction Financial is fits = elim may.transaction [
    | inl purchase ↦ ap (λ t. list_any (bytes_eq t) (transactions Financial)) purchase
    | inr sale ↦ ap (λ t. list_any (bytes_eq t) (transactions Financial)) sale.1
  ]
  known_transaction s is fits = absurd (cc)

  admission_passes : (s : Service) → r.service ≡ s → is_admissible s ≡ true → (k : Known) →
      k.today ≡ day_after opening.first_day h → k.range ≡ Some range →
      is_full k ≡ false →
      admission k merchant r ≡ Admits r range (merchant.first_reference + k.admitted)
  admission_passes s is fits k today found room =
      let other = in_currency r merchant s is (known_transaction s is fits) may.currency in
      (λ i. cond (other i) (Refuses r code.InvalidTransaction)
      (cond (not (may.amount i)) (Refuses r code.InvalidAmount)
      (cond (not (may.valid i)) (Refuses r code.InvalidCard)
      (cond ((ap (λ d. is_expired d (expiry_of r.message)) today ∙ may.unexpired) i)
      (Refuses r code.ExpiredCard)
      (admission_in k merchant r (found i))))))
      ∙ ap (λ b. cond b (Refuses r code.LimitExceeded)
      (Admits r range (merchant.first_reference + k.admitted))) room

  decides_admission : (s : Service) → r.service ≡ s → is_admissible s ≡ true →
      decision (known_by opening h (Requested r)) (Requested r)
      ≡ Admits r range (merchant.first_reference + admitted h)
  decides_admission Authorization is fits =
      new_request opening h r merchant may.request Authorization (λ e. absurd (cc)) is
      ∙ admission_passes Authorization is fits
      (known opening h r merchant may.request Authorization) refl in_its_range
      (ap not (has_room opening h r merchant may.request))
  decides_admission Financial is fits =
      new_request opening h r merchant may.request Financial (λ e. absurd (cc)) is
      ∙ admission_passes Financial is fits
      (known opening h r merchant may.request Financial) refl in_its_range
      (ap not (has_room opening h r merchant may.request))
  decides_admission s is fits = absurd (cc)

pub admits : (m : List ℕ) → statement.Admits m
admits m opening es r merchant range may =
    let h = history_of opening (Some m) es in
    ap (outcome_of (known_by opening h (Requested r)))
    (decides_admission opening h r merchant range may r.service refl may.service
    ∙ ap (λ o. Admits r range (first_reference o + admitted h)) (sym may.request.of_merchant))

-- ---- completions

-- on any history
pub completion_accepted : (opening : Opening) (h : List Entry) (r : RequestMessage)
    (merchant : Merchant) → MayComplete opening h r merchant →
    outcome (known_by opening h (Requested r)) (Requested r)
    ≡ Replied code.Approved (coded_reply (day_after opening.first_day h) r code.Approved)
completion_accepted opening h r merchant may =
    let k = known opening h r merchant may.request Completion in
    let p = prior may.hold in
    let other = in_currency r merchant Completion may.service
    (ap (λ t. list_any (bytes_eq t) (transactions Completion)) may.transaction) may.currency in
    let found : k.referred ≡ Some p =
    ap (option_and_then (λ n. option_map prior (referred n h))) may.named
    ∙ ap (option_map prior) may.found in
    let small = not_below (amount_of may.hold) (amount_in r.message) may.within in
    let room = has_room opening h r merchant may.request in
    ap (outcome_of (known_by opening h (Requested r)))
    (new_request opening h r merchant may.request Completion (λ e. absurd (cc)) may.service
    ∙ ((λ i. cond (other i) (Refuses r code.InvalidTransaction)
    (cond (not (may.amount i)) (Refuses r code.InvalidAmount)
    (completion_of k r (open_hold r.moment (found i)))))
    ∙ (ap (λ b. completion_of k r (cond b (Some p) None)) may.opens
    ∙ (λ i. cond (small i) (Refuses r code.InvalidAmount)
    (cond (not (room i)) (Refuses r code.LimitExceeded) (Completes r p))))))

pub accepts_completions : (m : List ℕ) → statement.AcceptsCompletions m
accepts_completions m opening es r merchant may =
    completion_accepted opening (history_of opening (Some m) es) r merchant may

-- ---- reversals

module _ (opening : Opening) (h : List Entry) (r : RequestMessage) (merchant : Merchant)
    (original : Found) (may : MayReverse opening h r merchant original) where
  abbrev p : Prior
  p = prior original

  going : is_final_for (remaining_in r.message) p ≡ false
  going = (λ i. not (may.reversible i)
      || (is_awaited (reply_state_of original) && nat_lt 0 (remaining_in r.message)))
      ∙ step may.answered
    where
      step : (remaining_in r.message ≡ 0) ⊎ (is_awaited (reply_state_of original) ≡ false) →
          (is_awaited (reply_state_of original) && nat_lt 0 (remaining_in r.message)) ≡ false
      step (inl none) =
          ap (λ n. is_awaited (reply_state_of original) && nat_lt 0 n) none
          ∙ and-false (is_awaited (reply_state_of original))
      step (inr answered) = ap (λ b. b && nat_lt 0 (remaining_in r.message)) answered

  part : leaves_a_part (amount_in r.message) (remaining_in r.message) p ≡ true
  part =
      λ i. same_test (amount_in r.message) (amount_of original) may.amount i
      && below_test (remaining_in r.message) (amount_of original) may.less i

  reversal_passes : (k : Known) → k.original ≡ Some p → is_full k ≡ false →
      reversal_of k r (original_of r.message k.original) ≡ Reverses r p
  reversal_passes k found room =
      ap (λ o. reversal_of k r (original_of r.message o)) found
      ∙ (ap (λ b. reversal_of k r (cond b (Some p) None)) may.acquirer
      ∙ (λ i. cond (going i) (Refuses r code.NoActionTaken)
      (cond (not (part i)) (Refuses r code.InvalidAmount)
      (cond (room i) (Refuses r code.LimitExceeded) (Reverses r p)))))

  its_original : option_and_then (λ key. option_map prior (recorded key h)) (original_key r.message)
      ≡ Some p
  its_original =
      ap (option_and_then (λ key. option_map prior (recorded key h))) may.named
      ∙ ap (option_map prior) may.found

  decides_reversal : (s : Service) → r.service ≡ s → is_reversal s ≡ true →
      decision (known_by opening h (Requested r)) (Requested r) ≡ Reverses r p
  decides_reversal Reversal is fits =
      new_request opening h r merchant may.request Reversal (λ e. absurd (cc)) is
      ∙ reversal_passes (known opening h r merchant may.request Reversal) its_original
      (ap not (has_room opening h r merchant may.request))
  decides_reversal ReversalAdvice is fits =
      new_request opening h r merchant may.request ReversalAdvice (λ e. absurd (cc)) is
      ∙ reversal_passes (known opening h r merchant may.request ReversalAdvice) its_original
      (ap not (has_room opening h r merchant may.request))
  decides_reversal s is fits = absurd (cc)

-- on any history
pub reversal_accepted : (opening : Opening) (h : List Entry) (r : RequestMessage)
    (merchant : Merchant) (original : Found) → MayReverse opening h r merchant original →
    outcome (known_by opening h (Requested r)) (Requested r)
    ≡ Replied code.Approved
    (referring_reply (day_after opening.first_day h) r (prior original).reference code.Approved)
reversal_accepted opening h r merchant original may =
    ap (outcome_of (known_by opening h (Requested r)))
    (decides_reversal opening h r merchant original may r.service refl may.service)

pub accepts_reversals : (m : List ℕ) → statement.AcceptsReversals m
accepts_reversals m opening es r merchant original may =
    reversal_accepted opening (history_of opening (Some m) es) r merchant original may
