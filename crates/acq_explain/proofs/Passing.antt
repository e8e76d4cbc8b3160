-- Each request by its reason: the checks before the reason's hold, and the reason's doesn't.
use Rattle.std.proofs.Common.{◌≡◌, ℕ, ◌==◌, Bool, true, false, List, [], ◌∷◌, ◌++◌, Option, Some}
use Rattle.std.proofs.Common.{None, refl, sym, ap, subst, ◌∙◌}
use Rattle.std.specs.Prelude.{not, nat_lt, ◌&&◌, is_some, if◌then◌else◌, IfSome}
use Rattle.std.specs.List.{list_all}
use Rattle.std.specs.Char.{is_ascii_digit}
use Rattle.std.specs.Str.{bytes_eq}
use Rattle.std.proofs.lemmas.Bool.{and_parts}
use Rattle.iso_codec.specs.Message.{IsoMessage, content_of}
use Rattle.card_no.specs.declared.range.Range.{Range}
use Rattle.card_no.specs.CardNumbers.{is_valid_card}
use Rattle.acq_message.specs.declared.service.Service.{Service}
use Rattle.acq_message.specs.declared.service.Service.TheVariants.{Authorization, Financial}
use Rattle.acq_message.specs.declared.service.Service.TheVariants.{Completion, Reversal}
use Rattle.acq_message.specs.declared.service.Service.TheVariants.{ReversalAdvice, Reconciliation}
use Rattle.acq_message.specs.declared.service.Service.TheVariants.{NetworkManagement}
use Rattle.acq_message.specs.declared.request_message.RequestMessage.{RequestMessage}
use Rattle.acq_message.specs.Services.{is_recordable}
use Rattle.acq_message.specs.Elements.{text_at, or_empty, amount_in, remaining_in, essence_of}
use Rattle.acq_message.specs.Cards.{card_of, expiry_of}
use Rattle.acq_message.specs.FirstCheck.{is_malformed}
use Rattle.acq_message.specs.Numbers.{is_accepted_amount}
use Rattle.acq_core.specs.declared.merchant.Merchant.{Merchant}
use Rattle.acq_core.specs.declared.reply_state.ReplyState.{ReplyState}
use Rattle.acq_core.specs.declared.reply_state.ReplyState.TheVariants.{Kept, Awaited, Late}
use Rattle.acq_core.specs.Known.{Known, Prior, reconciled_day}
use Rattle.acq_core.specs.Decision.{is_full, is_expired, is_final_for, is_network_code}
use Rattle.acq_core.specs.Outcome.{is_in_balance}
use Rattle.acq_reasons.specs.declared.reason.Reason.{Reason}
use Rattle.acq_reasons.specs.declared.reason.Reason.TheVariants as reason
use Rattle.acq_reasons.specs.Reasons.{has_other_transaction, has_other_currency, is_approval}
use Rattle.acq_reasons.specs.Reasons.{admission_reason, admission_reason_in, completion_reason}
use Rattle.acq_reasons.specs.Reasons.{completion_reason_of, no_open_hold, shut_hold, answered_hold}
use Rattle.acq_reasons.specs.Reasons.{is_hold, reversal_reason_of, no_original, final_original}
use Rattle.acq_reasons.specs.Reasons.{approved_original, unapproved_original}
use Rattle.acq_reasons.specs.Reasons.{reconciliation_reason, network_reason, reason_by}
use Rattle.acq_reasons.specs.Reasons.{key_reason, merchant_reason, request_reason}
use Rattle.acq_reasons.proofs.FirstChecks.{not_true}
use Rattle.acq_explain.specs.declared.check.Check.{Check}
use Rattle.acq_explain.specs.declared.check.Check.TheVariants as check
use Rattle.acq_explain.specs.Checks.{admission_checks, completion_checks, reversal_checks}
use Rattle.acq_explain.specs.Checks.{reconciliation_checks, network_checks, checks_of, check_of}
use Rattle.acq_explain.specs.Checks.{has_used_key, failed, before}
use Rattle.acq_explain.specs.Laws.{there_is, hold_of, original, holds}

not_false : (b : Bool) → not b ≡ false → b ≡ true
not_false true h = refl
not_false false h = sym h

and_true : (a b : Bool) → a ≡ true → b ≡ true → (a && b) ≡ true
and_true true b h g = g
and_true false b h g = h

is_there : {T : Type 0} (o : Option T) (x : T) (f : T → Bool) (b : Bool) → o ≡ Some x → f x ≡ b
    → there_is o f ≡ b
is_there {T} o x f b is h = ap (λ (found : Option T). there_is found f) is ∙ h

-- ---- which check a reason is of

digits_check : (digits : Bool) →
    check_of (if digits then reason.NoSuchReference else reason.BadReference) ≡ Some check.Hold
digits_check true = refl
digits_check false = refl

ended_check : (approves : Bool) →
    check_of (if approves then reason.HoldEnded else reason.HoldDeclined) ≡ Some check.Hold
ended_check true = refl
ended_check false = refl

answered_check : (o : Option ℕ) (reply : IsoMessage) →
    check_of (answered_hold o reply) ≡ Some check.Hold
answered_check (Some hold_end) reply = refl
answered_check None reply = ended_check (is_approval reply)

shut_check : (p : Prior) (s : ReplyState) → check_of (shut_hold p s) ≡ Some check.Hold
shut_check p (Kept reply) = answered_check p.hold_end reply
shut_check p (Awaited draft) = refl
shut_check p Late = refl

hold_check : (p : Prior) (hold : Bool) →
    check_of (if hold then shut_hold p p.reply_state else reason.NotAHold) ≡ Some check.Hold
hold_check p true = shut_check p p.reply_state
hold_check p false = refl

no_hold_check : (r : RequestMessage) (o : Option Prior) →
    check_of (no_open_hold r o) ≡ Some check.Hold
no_hold_check r None = digits_check (list_all is_ascii_digit (text_at r.message 37))
no_hold_check r (Some p) = hold_check p (is_hold p.key.service)

no_original_check : (o : Option Prior) → check_of (no_original o) ≡ Some check.Original
no_original_check None = refl
no_original_check (Some p) = refl

approved_check : (s : Service) (o : Option ℕ) →
    check_of (approved_original s o) ≡ Some check.Reversible
approved_check Authorization (Some hold_end) = refl
approved_check Authorization None = refl
approved_check s o = refl

unapproved_check : (s : Service) (o : Option ℕ) →
    check_of (unapproved_original s o) ≡ Some check.Reversible
unapproved_check Completion o = refl
unapproved_check s (Some reference) = refl
unapproved_check s None = refl

kept_check : (p : Prior) (approves : Bool) →
    check_of (if approves then approved_original p.key.service p.hold_end
    else unapproved_original p.key.service p.reference)
    ≡ Some check.Reversible
kept_check p true = approved_check p.key.service p.hold_end
kept_check p false = unapproved_check p.key.service p.reference

final_check : (p : Prior) (s : ReplyState) →
    check_of (final_original p s) ≡ Some check.Reversible
final_check p (Kept reply) = kept_check p (is_approval reply)
final_check p (Awaited draft) = refl
final_check p Late = refl

-- ---- checks that hold

record AllHold (k : Known) (r : RequestMessage) (checks : List Check) : Type 0 where
  pub all : list_all (holds k r) checks ≡ true

-- the checks before the last hold, and that doesn't
pub record Passes (k : Known) (r : RequestMessage) (checks : List Check) (last : Option Check) :
    Type 0 where
  pub all : list_all (holds k r) (before last checks) ≡ true
  pub fails : IfSome last (λ c. holds k r c ≡ false)

-- those that stand before a check
abbrev before_merchant : List Check
before_merchant = check.Elements ∷ []

abbrev before_terminal : List Check
before_terminal = before_merchant ++ check.Merchant ∷ []

abbrev before_key : List Check
before_key = before_terminal ++ check.Terminal ∷ []

abbrev front : List Check
front = before_key ++ check.Key ∷ []

abbrev before_hold : List Check
before_hold = front ++ check.Transaction ∷ check.Currency ∷ check.Amount ∷ []

abbrev before_range : List Check
before_range = before_hold ++ check.Card ∷ check.Expiry ∷ []

abbrev before_room : List Check
before_room =
    front ++ check.Original ∷ check.Reversible ∷ check.SameAmount ∷ check.Remainder ∷ []

-- where the first checks of most requests stand
record Front (checks : List Check) : Type 0 where
  pub merchant : before (Some check.Merchant) checks ≡ before_merchant
  pub terminal : before (Some check.Terminal) checks ≡ before_terminal
  pub key : before (Some check.Key) checks ≡ before_key

-- the reason of a request by what its merchant gives
abbrev reason_with : Known → RequestMessage → (Merchant → Option Reason) → Option Merchant →
    Option Reason
reason_with k r why None = Some reason.UnknownMerchant
reason_with k r why (Some merchant) =
    if k.has_terminal then key_reason r k.recorded (why merchant) else Some reason.UnknownTerminal

module _ (k : Known) (r : RequestMessage) where
  all_more : (checks : List Check) (c : Check) → list_all (holds k r) checks ≡ true →
      holds k r c ≡ true → list_all (holds k r) (checks ++ c ∷ []) ≡ true
  all_more [] c h g = and_true (holds k r c) true g refl
  all_more (d ∷ ds) c h g =
      let parts = and_parts (holds k r d) (list_all (holds k r) ds) h in
      and_true (holds k r d) (list_all (holds k r) (ds ++ c ∷ [])) parts.0 (all_more ds c parts.1 g)

  more : (checks : List Check) (c : Check) → AllHold k r checks → holds k r c ≡ true →
      AllHold k r (checks ++ c ∷ [])
  more checks c h g = record { all = all_more checks c h.all g }

  stops : (checks : List Check) (c : Check) → AllHold k r (before (Some c) checks) →
      holds k r c ≡ false → Passes k r checks (Some c)
  stops checks c h g = record { all = h.all; fails = g }

  stops_at : (checks : List Check) (why : Reason) (c : Check) → check_of why ≡ Some c →
      AllHold k r (before (Some c) checks) → holds k r c ≡ false →
      Passes k r checks (check_of why)
  stops_at checks why c is h g =
      subst (λ (last : Option Check). Passes k r checks last) (sym is) (stops checks c h g)

  ends : (checks : List Check) → AllHold k r checks → Passes k r checks None
  ends checks h = record { all = h.all; fails = tt }

  -- one check more, whose test says that it fails, or that it holds
  step : (checks : List Check) (b : Bool) (why : Reason) (later : Option Reason) →
      (b ≡ true → Passes k r checks (check_of why)) →
      (b ≡ false → Passes k r checks (failed later false)) →
      Passes k r checks (failed (if b then Some why else later) false)
  step checks true why later stop go = stop refl
  step checks false why later stop go = go refl

  unless : (checks : List Check) (b : Bool) (why : Reason) →
      (b ≡ false → Passes k r checks (check_of why)) → (b ≡ true → Passes k r checks None) →
      Passes k r checks (failed (if b then None else Some why) false)
  unless checks true why stop go = go refl
  unless checks false why stop go = stop refl

  -- the last one, of most requests
  room : (checks earlier : List Check) → before (Some check.Room) checks ≡ earlier →
      checks ≡ earlier ++ check.Room ∷ [] → AllHold k r earlier →
      Passes k r checks (failed (if is_full k then Some reason.DayFull else None) false)
  room checks earlier is whole h =
      step checks (is_full k) reason.DayFull None
      (λ full. stops checks check.Room
      (subst (λ (cs : List Check). AllHold k r cs) (sym is) h) (ap not full))
      (λ free. ends checks (subst (λ (cs : List Check). AllHold k r cs) (sym whole)
      (more earlier check.Room h (ap not free))))

  currency : (merchant : Merchant) → k.merchant ≡ Some merchant → (other : Bool) →
      has_other_currency merchant r ≡ other → holds k r check.Currency ≡ not other
  currency merchant there other is =
      is_there k.merchant merchant (λ (m : Merchant). not (has_other_currency m r)) (not other) there
      (ap not is)

  -- ---- the later checks of each service

  by_range : (o : Option Range) → k.range ≡ o → AllHold k r before_range →
      Passes k r admission_checks (failed (admission_reason_in k o) false)
  by_range None none h = stops admission_checks check.Range h (ap is_some none)
  by_range (Some range) is h =
      room admission_checks (before_range ++ check.Range ∷ []) refl refl
      (more before_range check.Range h (ap is_some is))

  by_hold : (o : Option Prior) → hold_of k r ≡ o → AllHold k r before_hold →
      Passes k r completion_checks (failed (completion_reason_of k r o) false)
  by_hold None none h =
      stops_at completion_checks (no_open_hold r k.referred) check.Hold
      (no_hold_check r k.referred) h (ap is_some none)
  by_hold (Some p) is h =
      let h = more before_hold check.Hold h (ap is_some is) in
      let above : Prior → Bool = λ hold. not (nat_lt hold.amount (amount_in r.message)) in
      step completion_checks (nat_lt p.amount (amount_in r.message)) reason.AboveHold _
      (λ more_than. stops completion_checks check.HeldAmount h
      (is_there (hold_of k r) p above false is (ap not more_than)))
      (λ within. room completion_checks (before_hold ++ check.Hold ∷ check.HeldAmount ∷ []) refl
      refl
      (more _ check.HeldAmount h (is_there (hold_of k r) p above true is (ap not within))))

  by_original : (o : Option Prior) → original k r ≡ o → AllHold k r front →
      Passes k r reversal_checks (failed (reversal_reason_of k r o) false)
  by_original None none h =
      stops_at reversal_checks (no_original k.original) check.Original
      (no_original_check k.original) h (ap is_some none)
  by_original (Some p) is h =
      let h = more front check.Original h (ap is_some is) in
      let free : Prior → Bool = λ p. not (is_final_for (remaining_in r.message) p) in
      let same : Prior → Bool = λ p. amount_in r.message == p.amount in
      let less : Prior → Bool = λ p. nat_lt (remaining_in r.message) p.amount in
      step reversal_checks (is_final_for (remaining_in r.message) p)
      (final_original p p.reply_state) _
      (λ final. stops_at reversal_checks (final_original p p.reply_state) check.Reversible
      (final_check p p.reply_state) h (is_there (original k r) p free false is (ap not final)))
      (λ may.
      let h = more _ check.Reversible h (is_there (original k r) p free true is (ap not may)) in
      step reversal_checks (not (amount_in r.message == p.amount)) reason.OtherAmount _
      (λ other. stops reversal_checks check.SameAmount h
      (is_there (original k r) p same false is (not_true _ other)))
      (λ alike.
      let h = more _ check.SameAmount h (is_there (original k r) p same true is (not_false _ alike))
      in
      step reversal_checks (not (nat_lt (remaining_in r.message) p.amount)) reason.NothingTaken _
      (λ none. stops reversal_checks check.Remainder h
      (is_there (original k r) p less false is (not_true _ none)))
      (λ some. room reversal_checks before_room refl refl
      (more _ check.Remainder h (is_there (original k r) p less true is (not_false _ some))))))

  by_day : (o : Option ℕ) → reconciled_day k.today (content_of r.message.elements 15) ≡ o →
      AllHold k r front →
      Passes k r reconciliation_checks (failed (reconciliation_reason k r o) false)
  by_day None none h = stops reconciliation_checks check.Day h (ap is_some none)
  by_day (Some day) is h =
      let h = more front check.Day h (ap is_some is) in
      unless reconciliation_checks (is_in_balance k r) reason.OutOfBalance
      (λ differs. stops reconciliation_checks check.Totals h differs)
      (λ balances. ends reconciliation_checks (more _ check.Totals h balances))

  -- ---- by service, of a request whose merchant, terminal and key are well

  by_admission : (merchant : Merchant) → k.merchant ≡ Some merchant → AllHold k r front →
      Passes k r admission_checks (failed (admission_reason k merchant r) false)
  by_admission merchant there h =
      step admission_checks (has_other_transaction r) reason.OtherTransaction _
      (λ other. stops admission_checks check.Transaction h (ap not other))
      (λ same.
      let h = more front check.Transaction h (ap not same) in
      step admission_checks (has_other_currency merchant r) reason.OtherCurrency _
      (λ other. stops admission_checks check.Currency h (currency merchant there true other))
      (λ same.
      let h = more _ check.Currency h (currency merchant there false same) in
      step admission_checks (not (is_accepted_amount (amount_in r.message)))
      reason.AmountOutOfRange _
      (λ bad. stops admission_checks check.Amount h (not_true _ bad))
      (λ well.
      let h = more _ check.Amount h (not_false _ well) in
      step admission_checks (not (is_valid_card (or_empty (card_of r.message))))
      reason.InvalidCard _
      (λ bad. stops admission_checks check.Card h (not_true _ bad))
      (λ well.
      let h = more _ check.Card h (not_false _ well) in
      step admission_checks (is_expired k.today (expiry_of r.message)) reason.ExpiredCard _
      (λ past. stops admission_checks check.Expiry h (ap not past))
      (λ fresh. by_range k.range refl (more _ check.Expiry h (ap not fresh)))))))

  by_completion : (merchant : Merchant) → k.merchant ≡ Some merchant → AllHold k r front →
      Passes k r completion_checks (failed (completion_reason k merchant r) false)
  by_completion merchant there h =
      step completion_checks (has_other_transaction r) reason.OtherTransaction _
      (λ other. stops completion_checks check.Transaction h (ap not other))
      (λ same.
      let h = more front check.Transaction h (ap not same) in
      step completion_checks (has_other_currency merchant r) reason.OtherCurrency _
      (λ other. stops completion_checks check.Currency h (currency merchant there true other))
      (λ same.
      let h = more _ check.Currency h (currency merchant there false same) in
      step completion_checks (not (is_accepted_amount (amount_in r.message)))
      reason.AmountOutOfRange _
      (λ bad. stops completion_checks check.Amount h (not_true _ bad))
      (λ well. by_hold (hold_of k r) refl (more _ check.Amount h (not_false _ well)))))

  by_service : (merchant : Merchant) → k.merchant ≡ Some merchant → AllHold k r front →
      (s : Service) → is_recordable s ≡ true →
      Passes k r (checks_of s) (failed (reason_by s k merchant r) false)
  by_service merchant there h Authorization is = by_admission merchant there h
  by_service merchant there h Financial is = by_admission merchant there h
  by_service merchant there h Completion is = by_completion merchant there h
  by_service merchant there h Reversal is = by_original (original k r) refl h
  by_service merchant there h ReversalAdvice is = by_original (original k r) refl h
  by_service merchant there h Reconciliation is =
      by_day (reconciled_day k.today (content_of r.message.elements 15)) refl h
  by_service merchant there h NetworkManagement is = absurd cc

  -- ---- the checks before

  repeated : (checks : List Check) (same : Bool) → Passes k r checks (Some check.Key) →
      Passes k r checks (failed (if same then None else Some reason.OtherRequest) true)
  repeated checks true h = h
  repeated checks false h = h

  module _ (checks : List Check) (at : Front checks) (why : Merchant → Option Reason)
      (recordable : is_recordable r.service ≡ true)
      (rest : (merchant : Merchant) → k.merchant ≡ Some merchant → AllHold k r front →
      Passes k r checks (failed (why merchant) false)) where
    used : (o : Option Prior) → k.recorded ≡ o → has_used_key k r ≡ is_some o
    used o is = ap (λ (b : Bool). b && is_some k.recorded) recordable ∙ ap is_some is

    by_key : (merchant : Merchant) → k.merchant ≡ Some merchant → AllHold k r before_key →
        (o : Option Prior) → k.recorded ≡ o →
        Passes k r checks (failed (key_reason r o (why merchant)) (has_used_key k r))
    by_key merchant there h None none =
        let fresh = used None none in
        subst (λ (b : Bool). Passes k r checks (failed (why merchant) b)) (sym fresh)
        (rest merchant there (more before_key check.Key h (ap not fresh)))
    by_key merchant there h (Some p) is =
        let old = used (Some p) is in
        subst (λ (b : Bool). Passes k r checks (failed (key_reason r (Some p) (why merchant)) b))
        (sym old)
        (repeated checks (bytes_eq (essence_of r.service r.message) p.essence)
        (stops checks check.Key
        (subst (λ (cs : List Check). AllHold k r cs) (sym at.key) h) (ap not old)))

    by_terminal : (merchant : Merchant) → k.merchant ≡ Some merchant → AllHold k r before_terminal →
        (b : Bool) → k.has_terminal ≡ b →
        Passes k r checks (failed (if b then key_reason r k.recorded (why merchant)
        else Some reason.UnknownTerminal)
        (has_used_key k r))
    by_terminal merchant there h true is =
        by_key merchant there (more before_terminal check.Terminal h is) k.recorded refl
    by_terminal merchant there h false is =
        stops checks check.Terminal
        (subst (λ (cs : List Check). AllHold k r cs) (sym at.terminal) h) is

    by_merchant : AllHold k r before_merchant → (o : Option Merchant) → k.merchant ≡ o →
        Passes k r checks (failed (reason_with k r why o) (has_used_key k r))
    by_merchant h None none =
        stops checks check.Merchant
        (subst (λ (cs : List Check). AllHold k r cs) (sym at.merchant) h) (ap is_some none)
    by_merchant h (Some merchant) there =
        by_terminal merchant there (more before_merchant check.Merchant h (ap is_some there))
        k.has_terminal refl

  of_service : AllHold k r before_merchant → (s : Service) → r.service ≡ s →
      is_recordable s ≡ true → Front (checks_of s) →
      Passes k r (checks_of s) (failed (merchant_reason k r k.merchant) (has_used_key k r))
  of_service h s is recordable at =
      subst (λ (t : Service). Passes k r (checks_of s)
      (failed (reason_with k r (λ merchant. reason_by t k merchant r) k.merchant)
      (has_used_key k r)))
      (sym is)
      (by_merchant (checks_of s) at (λ merchant. reason_by s k merchant r)
      (ap is_recordable is ∙ recordable)
      (λ merchant there g. by_service merchant there g s recordable) h k.merchant refl)

  by_network : AllHold k r before_merchant → r.service ≡ NetworkManagement →
      Passes k r network_checks (failed (network_reason r.message) (has_used_key k r))
  by_network h is =
      subst (λ (b : Bool). Passes k r network_checks (failed (network_reason r.message) b))
      (sym (ap (λ (s : Service). is_recordable s && is_some k.recorded) is))
      (unless network_checks (is_network_code (content_of r.message.elements 70))
      reason.UnknownNetworkCode
      (λ other. stops network_checks check.NetworkCode h other)
      (λ served. ends network_checks (more before_merchant check.NetworkCode h served)))

  elements : is_malformed r.service r.message ≡ false → AllHold k r before_merchant
  elements sound =
      record { all = and_true (holds k r check.Elements) true (ap not sound) refl }

  pub passes : is_malformed r.service r.message ≡ false → (s : Service) → r.service ≡ s →
      Passes k r (checks_of s) (failed (request_reason s k r) (has_used_key k r))
  passes sound Authorization is =
      of_service (elements sound) Authorization is refl
      (record { merchant = refl; terminal = refl; key = refl })
  passes sound Financial is =
      of_service (elements sound) Financial is refl
      (record { merchant = refl; terminal = refl; key = refl })
  passes sound Completion is =
      of_service (elements sound) Completion is refl
      (record { merchant = refl; terminal = refl; key = refl })
  passes sound Reversal is =
      of_service (elements sound) Reversal is refl
      (record { merchant = refl; terminal = refl; key = refl })
  passes sound ReversalAdvice is =
      of_service (elements sound) ReversalAdvice is refl
      (record { merchant = refl; terminal = refl; key = refl })
  passes sound Reconciliation is =
      of_service (elements sound) Reconciliation is refl
      (record { merchant = refl; terminal = refl; key = refl })
  passes sound NetworkManagement is = by_network (elements sound) is
