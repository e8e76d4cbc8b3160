-- Only what may be is asked about, completed or reversed.
use Rattle.std.proofs.Common.{◌≡◌, ◌+◌, ◌<◌, ◌≤◌, ℕ, List, Option, Some, None, Bool, true}
use Rattle.std.proofs.Common.{false, cond, ◌⊎◌, inl, inr, refl, sym, ap, ◌∙◌, subst, arith}
use Rattle.std.specs.Prelude.{option_map, option_and_then, not, nat_lt, ◌&&◌, ◌||◌, ◌==◌, codes}
use Rattle.std.specs.List.{list_any}
use Rattle.std.specs.Str.{bytes_eq}
use Rattle.std.proofs.lemmas.Bool.{and_parts}
use Rattle.std.proofs.lemmas.Bool.Decides.{nat_tests}
use Rattle.iso_codec.specs.Message.{content_of}
use Rattle.day_totals.specs.declared.leg.Leg.TheVariants.{Credit, Debit}
use Rattle.card_no.specs.declared.range.Range.{Range}
use Rattle.card_no.specs.CardNumbers.{is_valid_card, prefix_of}
use Rattle.acq_message.specs.declared.service.Service.{Service}
use Rattle.acq_message.specs.declared.service.Service.TheVariants.{Authorization, Financial}
use Rattle.acq_message.specs.declared.service.Service.TheVariants.{Completion, Reversal}
use Rattle.acq_message.specs.declared.service.Service.TheVariants.{ReversalAdvice}
use Rattle.acq_message.specs.declared.service.Service.TheVariants.{NetworkManagement}
use Rattle.acq_message.specs.declared.request_key.RequestKey.{RequestKey}
use Rattle.acq_message.specs.declared.request_message.RequestMessage.{RequestMessage}
use Rattle.acq_message.specs.declared.response_code.ResponseCode.{ResponseCode}
use Rattle.acq_message.specs.declared.response_code.ResponseCode.TheVariants as code
use Rattle.acq_message.specs.Responses.{code_text}
use Rattle.acq_message.specs.Cards.{card_of, expiry_of}
use Rattle.acq_message.specs.Numbers.{is_accepted_amount}
use Rattle.acq_message.specs.Elements.{text_at, or_empty, amount_in, transaction_in, key_of}
use Rattle.acq_message.specs.Elements.{remaining_in, original_key, original_acquirer, reference_in}
use Rattle.acq_message.specs.Reply.{coded_reply, with_contents, echo, day_element, code_element}
use Rattle.acq_core.specs.declared.merchant.Merchant.{Merchant}
use Rattle.acq_core.specs.declared.query.Query.{Query}
use Rattle.acq_core.specs.declared.reply_state.ReplyState.{ReplyState}
use Rattle.acq_core.specs.declared.reply_state.ReplyState.TheVariants.{Kept}
use Rattle.acq_core.specs.Known.{Known, Prior, known_for, wanted_for, prefix_in}
use Rattle.acq_core.specs.Decision.{transactions, is_other_transaction, is_expired, is_open_at}
use Rattle.acq_core.specs.Decision.{fits_acquirer, is_final_for, leaves_a_part, decision_by}
use Rattle.acq_core.specs.Decision.{decision_of_request, repeat_of, is_awaited}
use Rattle.acq_core.specs.Decision.{Replies}
use Rattle.acq_core.specs.Outcome.{Outcome, Replied, Asked, outcome_of, query_of}
use Rattle.acq_core.specs.Tables.{Opening}
use Rattle.acq_soundness.specs.Requests.{is_admissible, is_reversal}
use Rattle.acq_core.proofs.DecisionCases.{by_request}
use Rattle.acq_soundness.proofs.RecordableRequests.{is_admissible_true}
use Rattle.acq_soundness.proofs.Keys.{bytes_eq_is}
use Rattle.acq_soundness.proofs.Lookups.{clash}
use Rattle.acq_soundness.proofs.Lookups.{none_some, not_false, or_split, then_some}
use Rattle.acq_soundness.proofs.Lookups.{clash}
use Rattle.acq_soundness.proofs.Lookups.{map_some, map_none}
use Rattle.acq_history.specs.Entries.{Entry, is_asked, is_approved}
use Rattle.acq_history.specs.History.{Found, enrolled, has_terminal, recorded, referred, prior}
use Rattle.acq_history.specs.History.{admitted, next_reference, day_after, facts_of, is_text}
use Rattle.acq_history.specs.History.{used, amount_of, is_reversible}
use Rattle.acq_history.specs.History.{reply_state_of}
use Rattle.acq_history.specs.PartyHistory.{history_of}
use Rattle.acq_history.specs.Told.{told, IsTold00}
use Rattle.acq_history.specs.Acceptance.{IsNewRequest, MayBeAdmitted, MayComplete, MayReverse}
use Rattle.acq_history.specs.Acceptance.{result_on}
use Rattle.acq_history.specs.ExactAcceptance as statement
use Rattle.acq_history.specs.ExactAcceptance.{IsAdmission, AsksAsSaid}
use Rattle.acq_history.proofs.ReplyElements.{content_of-set, with_contents-append}
use Rattle.acq_history.proofs.PassedChecks.{is_own, AreBehind, is_served}
use Rattle.acq_history.proofs.PassedChecks.{IsPastAdmission, past_admission, IsPastCompletion}
use Rattle.acq_history.proofs.PassedChecks.{IsPastReversal}
use Rattle.acq_history.proofs.PassedChecks.{past_completion, past_reversal}
use Rattle.acq_history.proofs.AcceptedRequests.{admits}

-- ---- what tests of numbers say

not_above : (a b : ℕ) → nat_lt a b ≡ false → b ≤ a
not_above a b h = grind (arith, nat_tests)

below : (a b : ℕ) → nat_lt a b ≡ true → a < b
below a b h = grind (arith, nat_tests)

same : (a b : ℕ) → (a == b) ≡ true → a ≡ b
same a b h = grind (arith, nat_tests)

none_left : (n : ℕ) → nat_lt 0 n ≡ false → n ≡ 0
none_left n h = grind (arith, nat_tests)

has_room : (used limit : ℕ) → not (nat_lt used limit) ≡ false → used < limit
has_room used limit h = below used limit (not_false (nat_lt used limit) h)

-- ---- the code of a reply

-- a reply that was given a code says it
pub says_code : (day : ℕ) (r : RequestMessage) (given : ResponseCode) →
    content_of (coded_reply day r given).elements 39 ≡ Some (code_text given)
says_code day r given =
    ap (λ es. content_of es 39)
    (with_contents-append (echo r.service r.message) (day_element r.service day)
    (code_element given))
    ∙ content_of-set (with_contents (echo r.service r.message) (day_element r.service day)) 39
    (code_text given)

-- a check's own code isn't 00
pub own_not_00 : (given : ResponseCode) → is_own given ≡ true →
    bytes_eq (code_text given) (codes "00") ≡ false
own_not_00 code.Approved own = absurd (cc)
own_not_00 (code.Declined text) own = absurd (cc)
own_not_00 given own = refl

-- ---- the kinds of outcomes that are behind the checks

-- a reply that says 00
abbrev says_00 : Outcome → Bool
says_00 o = is_text (codes "00") (told o)

unasked : (k : Known) (r : RequestMessage) → AreBehind is_asked k r
unasked k r = record {
  refused = λ given own. refl;
  recorded = λ p there. repeat r p (bytes_eq _ p.essence);
}
  where
    kept : (s : ReplyState) → is_asked (outcome_of k (repeat_of s)) ≡ false
    kept (Kept reply) = refl
    kept other = refl

    repeat : (q : RequestMessage) (p : Prior) (b : Bool) →
        is_asked (outcome_of k
        (cond b (repeat_of p.reply_state) (Replies q code.DuplicateTransmission)))
        ≡ false
    repeat q p true = kept p.reply_state
    repeat q p false = refl

untold : (k : Known) (r : RequestMessage) → k.recorded ≡ None → AreBehind says_00 k r
untold k r new = record {
  refused = λ given own.
      ap (is_text (codes "00")) (says_code k.today r given) ∙ own_not_00 given own;
  recorded = λ p there. none_some p (sym new ∙ there);
}

pub unapproved : (k : Known) (r : RequestMessage) → AreBehind is_approved k r
unapproved k r = record {
  refused = own_unapproved k;
  recorded = λ p there. repeat r p (bytes_eq _ p.essence);
}
  where
    own_unapproved : (k : Known) (given : ResponseCode) → is_own given ≡ true →
        is_approved (Replied given (coded_reply k.today r given)) ≡ false
    own_unapproved k code.Approved own = absurd (cc)
    own_unapproved k given own = refl

    kept : (s : ReplyState) → is_approved (outcome_of k (repeat_of s)) ≡ false
    kept (Kept reply) = refl
    kept other = refl

    repeat : (q : RequestMessage) (p : Prior) (b : Bool) →
        is_approved (outcome_of k
        (cond b (repeat_of p.reply_state) (Replies q code.DuplicateTransmission)))
        ≡ false
    repeat q p true = kept p.reply_state
    repeat q p false = refl

-- issuers are asked about these services alone
asked_admissible : (k : Known) (r : RequestMessage) →
    is_asked (outcome_of k (decision_of_request r.service k r)) ≡ true →
    is_admissible r.service ≡ true
asked_admissible k r =
    by_request k r (λ d. is_asked (outcome_of k d) ≡ true → is_admissible r.service ≡ true)
    (record {
      managed = λ is yes. absurd (cc);
      unknown = λ yes. absurd (cc);
      duplicate = λ p is yes. absurd (cc);
      repeated = λ p is yes. kept p.reply_state yes;
      refused = λ merchant fresh given is yes. absurd (cc);
      admitted = λ merchant fresh service range in_range yes. is_admissible_true r.service service;
      completed = λ merchant fresh service hold found opens yes. absurd (cc);
      reversed = λ merchant fresh service p found can yes. absurd (cc);
      reconciled = λ merchant fresh service day resolved yes. absurd (cc);
    })
  where
    kept : (s : ReplyState) → is_asked (outcome_of k (repeat_of s)) ≡ true →
        is_admissible r.service ≡ true
    kept (Kept reply) asks = absurd (cc)
    kept other asks = absurd (cc)

-- ---- in the words of a history

module _ (opening : Opening) (h : List Entry) (r : RequestMessage) where
  abbrev today : ℕ
  today = day_after opening.first_day h

  -- what a request of a service knows
  abbrev pub known : Service → Known
  known s = known_for (wanted_for today s r.message) (facts_of opening h)

  -- what came results so, by its service
  abbrev pub Results : (Outcome → Bool) → Service → Type 0
  Results goes s = goes (outcome_of (known s) (decision_of_request s (known s) r)) ≡ true

  record IsBehind (goes : Outcome → Bool) (s : Service) : Type 0 where
    merchant : Merchant
    of_merchant : enrolled h ≡ Some merchant
    terminal : has_terminal h (text_at r.message 41) ≡ true
    new : recorded (key_of r.service r.message) h ≡ None
    decided : goes (outcome_of (known s) (decision_by s (known s) merchant r)) ≡ true

  is_behind : (goes : Outcome → Bool) (s : Service) → (s ≡ NetworkManagement → ⊥) →
      r.service ≡ s → AreBehind goes (known s) r → Results goes s → IsBehind goes s
  is_behind goes NetworkManagement other is behind going = absurd (other refl)
  is_behind goes s other is behind going =
      let w = is_served goes (known s) r behind (known s).merchant refl going in
      record {
        merchant = w.merchant;
        of_merchant = w.enrolled;
        terminal = w.terminal;
        new = map_none prior (recorded (key_of r.service r.message) h)
            (ap (λ x. option_map prior (recorded (key_of x r.message) h)) is ∙ w.new);
        decided = subst (λ x. goes (outcome_of (known s) (decision_by x (known s) w.merchant r))
            ≡ true) is w.decided;
      }

  new_request : (goes : Outcome → Bool) (s : Service) → (w : IsBehind goes s) →
      used h today < opening.limit → IsNewRequest opening h r w.merchant
  new_request goes s w room =
      record { of_merchant = w.of_merchant; terminal = w.terminal; new = w.new; room = room }

  -- the transaction is one of the service's, in the merchant's currency
  known_transaction : (merchant : Merchant) (s : Service) → r.service ≡ s →
      is_other_transaction merchant r ≡ false →
      (list_any (bytes_eq (transaction_in r.message)) (transactions s) ≡ true)
      × (text_at r.message 49 ≡ merchant.currency)
  known_transaction merchant s is passes =
      let any = list_any (bytes_eq (transaction_in r.message)) (transactions r.service) in
      let parts = or_split (not any) (not (bytes_eq (text_at r.message 49) merchant.currency)) passes
      in (
        ap (λ x. list_any (bytes_eq (transaction_in r.message)) (transactions x)) (sym is)
            ∙ not_false any parts.0,
        bytes_eq_is (text_at r.message 49) merchant.currency (not_false _ parts.1),
      )

  purchase : bytes_eq (transaction_in r.message) (codes "00") || false ≡ true →
      transaction_in r.message ≡ codes "00"
  purchase any = step (bytes_eq (transaction_in r.message) (codes "00")) refl any
    where
      step : (b : Bool) → bytes_eq (transaction_in r.message) (codes "00") ≡ b →
          (b || false) ≡ true → transaction_in r.message ≡ codes "00"
      step true is any = bytes_eq_is (transaction_in r.message) (codes "00") is
      step false is any = absurd (cc)

  sale_or_return : bytes_eq (transaction_in r.message) (codes "00")
      || (bytes_eq (transaction_in r.message) (codes "20") || false) ≡ true →
      r.service ≡ Financial →
      (transaction_in r.message ≡ codes "00")
      ⊎ ((r.service ≡ Financial) × (transaction_in r.message ≡ codes "20"))
  sale_or_return any is = step (bytes_eq (transaction_in r.message) (codes "00"))
      (bytes_eq (transaction_in r.message) (codes "20")) refl refl any
    where
      step : (b c : Bool) → bytes_eq (transaction_in r.message) (codes "00") ≡ b →
          bytes_eq (transaction_in r.message) (codes "20") ≡ c →
          (b || (c || false)) ≡ true →
          (transaction_in r.message ≡ codes "00")
          ⊎ ((r.service ≡ Financial) × (transaction_in r.message ≡ codes "20"))
      step true c sale return any = inl (bytes_eq_is (transaction_in r.message) (codes "00") sale)
      step false true sale return any =
          inr (is, bytes_eq_is (transaction_in r.message) (codes "20") return)
      step false false sale return any = absurd (cc)

  -- ---- admissions

  abbrev May : Type 0
  May = (merchant : Merchant) × (range : Range) × MayBeAdmitted opening h r merchant range

  may_be : (s : Service) → is_admissible s ≡ true → r.service ≡ s →
      (w : IsBehind is_asked s) → used h today < opening.limit →
      (past : IsPastAdmission is_asked (known s) r (unasked (known s) r) w.merchant) → (known s).today ≡ today →
      (transaction_in r.message ≡ codes "00")
      ⊎ ((r.service ≡ Financial) × (transaction_in r.message ≡ codes "20")) →
      text_at r.message 49 ≡ w.merchant.currency →
      option_and_then (facts_of opening h).range (prefix_in r.message) ≡ Some past.range → May
  may_be s fits is w room past at transaction currency found =
      let valid = not_false (is_valid_card (or_empty (card_of r.message))) past.valid in (
        w.merchant,
        past.range,
        record {
          request = new_request is_asked s w room;
          service = ap is_admissible is ∙ fits;
          transaction = transaction;
          currency = currency;
          amount = not_false (is_accepted_amount (amount_in r.message)) past.amount;
          valid = valid;
          unexpired = ap (λ d. is_expired d (expiry_of r.message)) (sym at) ∙ past.unexpired;
          in_range =
              sym (ap (λ b. option_and_then (facts_of opening h).range
              (cond b (Some (prefix_of (or_empty (card_of r.message)))) None)) valid)
              ∙ found;
        },
      )

  may_be_admitted : (s : Service) → r.service ≡ s → is_admissible s ≡ true →
      Results is_asked s → May
  may_be_admitted Authorization is fits going =
      let k = known Authorization in
      let w = is_behind is_asked Authorization (λ e. absurd (cc)) is (unasked k r) going in
      let past = past_admission is_asked k r (unasked k r) w.merchant w.decided in
      let transaction = known_transaction w.merchant Authorization is past.transaction in
      may_be Authorization fits is w (has_room (used h today) opening.limit past.room) past refl
      (inl (purchase transaction.0)) transaction.1 past.found
  may_be_admitted Financial is fits going =
      let k = known Financial in
      let w = is_behind is_asked Financial (λ e. absurd (cc)) is (unasked k r) going in
      let past = past_admission is_asked k r (unasked k r) w.merchant w.decided in
      let transaction = known_transaction w.merchant Financial is past.transaction in
      may_be Financial fits is w (has_room (used h today) opening.limit past.room) past refl
      (sale_or_return transaction.0 is) transaction.1 past.found
  may_be_admitted s is fits going = absurd (cc)

  pub asks_by : Results is_asked r.service → May
  asks_by going =
      may_be_admitted r.service refl (asked_admissible (known r.service) r going) going

  -- what may be admitted gets no reply at once
  pub waits : (goes : Outcome → Bool) → ((query : Query) → goes (Asked query) ≡ false) →
      (s : Service) → r.service ≡ s → is_admissible s ≡ true → AreBehind goes (known s) r →
      Results goes s → ⊥
  waits goes asks Authorization is fits behind going =
      let w = is_behind goes Authorization (λ e. absurd (cc)) is behind going in
      let past = past_admission goes (known Authorization) r behind w.merchant w.decided in
      clash (goes (Asked (query_of r past.range (w.merchant.first_reference + admitted h))))
      past.decided (asks _)
  waits goes asks Financial is fits behind going =
      let w = is_behind goes Financial (λ e. absurd (cc)) is behind going in
      let past = past_admission goes (known Financial) r behind w.merchant w.decided in
      clash (goes (Asked (query_of r past.range (w.merchant.first_reference + admitted h))))
      past.decided (asks _)
  waits goes asks s is fits behind going = absurd (cc)

  -- ---- completions

  may_complete : (goes : Outcome → Bool) (behind : AreBehind goes (known Completion) r) →
      r.service ≡ Completion → (w : IsBehind goes Completion) →
      (past : IsPastCompletion goes (known Completion) r behind w.merchant) →
      (n : ℕ) (hold : Found) → reference_in r.message ≡ Some n → referred n h ≡ Some hold →
      prior hold ≡ past.hold → MayComplete opening h r w.merchant
  may_complete goes behind is w past n hold named found shown =
      let transaction = known_transaction w.merchant Completion is past.transaction in
      record {
        request = new_request goes Completion w (has_room (used h today) opening.limit past.room);
        service = is;
        transaction = purchase transaction.0;
        currency = transaction.1;
        amount = not_false (is_accepted_amount (amount_in r.message)) past.amount;
        reference = n;
        hold = hold;
        named = named;
        found = found;
        opens = subst (λ p. is_open_at r.moment p.hold_end ≡ true) (sym shown) past.opens;
        within = not_above (amount_of hold) (amount_in r.message)
            (subst (λ p. nat_lt p.amount (amount_in r.message) ≡ false) (sym shown) past.within);
      }

  pub completes_by : (goes : Outcome → Bool) → r.service ≡ Completion →
      AreBehind goes (known Completion) r → Results goes Completion →
      (merchant : Merchant) × MayComplete opening h r merchant
  completes_by goes is behind going =
      let w = is_behind goes Completion (λ e. absurd (cc)) is behind going in
      let past = past_completion goes (known Completion) r behind w.merchant w.decided in
      let asked = then_some (λ n. option_map prior (referred n h)) (reference_in r.message) past.hold
      past.found in
      let there = map_some prior (referred asked.0 h) past.hold asked.2 in
      (w.merchant, may_complete goes behind is w past asked.0 there.0 asked.1 there.1 there.2)

  -- ---- reversals

  abbrev Reverses : Type 0
  Reverses =
      (merchant : Merchant) × (original : Found) × MayReverse opening h r merchant original

  answered : (remaining : ℕ) (awaited : Bool) → (awaited && nat_lt 0 remaining) ≡ false →
      (remaining ≡ 0) ⊎ (awaited ≡ false)
  answered remaining true none = inl (none_left remaining none)
  answered remaining false none = inr refl

  may_reverse : (goes : Outcome → Bool) (s : Service) → is_reversal s ≡ true → r.service ≡ s →
      (behind : AreBehind goes (known s) r) (w : IsBehind goes s) →
      (past : IsPastReversal goes (known s) r behind) → used h today < opening.limit →
      (key : RequestKey) (f : Found) → original_key r.message ≡ Some key →
      recorded key h ≡ Some f → prior f ≡ past.original → MayReverse opening h r w.merchant f
  may_reverse goes s fits is behind w past room key f named found shown =
      let remaining = remaining_in r.message in
      let standing = or_split (not (is_reversible f))
      (is_awaited (reply_state_of f) && nat_lt 0 remaining)
      (subst (λ q. is_final_for remaining q ≡ false) (sym shown) past.going_on) in
      let less = and_parts (amount_in r.message == amount_of f) (nat_lt remaining (amount_of f))
      (subst (λ q. leaves_a_part (amount_in r.message) remaining q ≡ true) (sym shown)
      (not_false (leaves_a_part (amount_in r.message) remaining past.original) past.part)) in
      record {
        request = new_request goes s w room;
        service = ap is_reversal is ∙ fits;
        key = key;
        named = named;
        found = found;
        acquirer =
            subst (λ q. fits_acquirer (original_acquirer r.message) q.acquirer ≡ true) (sym shown)
            past.acquirer;
        reversible = not_false (is_reversible f) standing.0;
        amount = same (amount_in r.message) (amount_of f) less.0;
        less = below remaining (amount_of f) less.1;
        answered = answered remaining (is_awaited (reply_state_of f)) standing.1;
      }

  reverses_with : (goes : Outcome → Bool) (s : Service) → is_reversal s ≡ true → r.service ≡ s →
      (behind : AreBehind goes (known s) r) (w : IsBehind goes s) →
      (past : IsPastReversal goes (known s) r behind) → used h today < opening.limit →
      option_and_then (λ key. option_map prior (recorded key h)) (original_key r.message)
      ≡ Some past.original →
      Reverses
  reverses_with goes s fits is behind w past room found =
      let asked = then_some (λ key. option_map prior (recorded key h)) (original_key r.message)
      past.original found in
      let there = map_some prior (recorded asked.0 h) past.original asked.2 in (
        w.merchant,
        there.0,
        may_reverse goes s fits is behind w past room asked.0 there.0 asked.1 there.1 there.2,
      )

  pub reverses_by : (goes : Outcome → Bool) (s : Service) → r.service ≡ s → is_reversal s ≡ true →
      AreBehind goes (known s) r → Results goes s → Reverses
  reverses_by goes Reversal is fits behind going =
      let w = is_behind goes Reversal (λ e. absurd (cc)) is behind going in
      let past = past_reversal goes (known Reversal) r behind w.decided in
      reverses_with goes Reversal fits is behind w past
      (has_room (used h today) opening.limit past.room) past.found
  reverses_by goes ReversalAdvice is fits behind going =
      let w = is_behind goes ReversalAdvice (λ e. absurd (cc)) is behind going in
      let past = past_reversal goes (known ReversalAdvice) r behind w.decided in
      reverses_with goes ReversalAdvice fits is behind w past
      (has_room (used h today) opening.limit past.room) past.found
  reverses_by goes s is fits behind going = absurd (cc)

-- ---- the laws

told_is : (o : Outcome) → IsTold00 o → says_00 o ≡ true
told_is o said = ap (is_text (codes "00")) said

query_is : (a b : Query) → Asked a ≡ Asked b → a ≡ b
query_is a b e = cc

-- a query is about its request
asks_as_said : (r : RequestMessage) (range : Range) (n : ℕ) →
    is_valid_card (or_empty (card_of r.message)) ≡ true →
    AsksAsSaid r range n (query_of r range n)
asks_as_said r range n valid = record {
  merchant = refl;
  numbered = refl;
  service = refl;
  bought = λ is. ap (λ t. cond (bytes_eq t (codes "20")) Credit Debit) is;
  returned = λ is. ap (λ t. cond (bytes_eq t (codes "20")) Credit Debit) is;
  card = there (card_of r.message) valid;
  amount = refl;
  issuer = refl;
}
  where
    there : (o : Option (List ℕ)) → is_valid_card (or_empty o) ≡ true → o ≡ Some (or_empty o)
    there None valid = absurd (cc)
    there (Some card) valid = refl

pub admits_only : (m : List ℕ) → statement.AdmitsOnly m
admits_only m opening es r query asked =
    let h = history_of opening (Some m) es in
    let may = asks_by opening h r (ap is_asked asked) in
    let asks = query_is query (query_of r may.1 (next_reference h))
    (sym asked ∙ admits m opening es r may.0 may.1 may.2) in
    record {
      merchant = may.0;
      range = may.1;
      may = may.2;
      asks = asks;
      says =
          subst (AsksAsSaid r may.1 (next_reference h)) (sym asks)
          (asks_as_said r may.1 (next_reference h) may.2.valid);
    }

-- under a new key
unkept : (opening : Opening) (h : List Entry) (r : RequestMessage) (s : Service) → r.service ≡ s →
    (s ≡ NetworkManagement → ⊥) → recorded (key_of r.service r.message) h ≡ None →
    AreBehind says_00 (known opening h r s) r
unkept opening h r NetworkManagement is other new = absurd (other refl)
unkept opening h r s is other new =
    untold (known opening h r s) r
    (ap (λ x. option_map prior (recorded (key_of x r.message) h)) (sym is) ∙ ap (option_map prior) new)

pub completes_only : (m : List ℕ) → statement.CompletesOnly m
completes_only m opening es r is new said =
    let h = history_of opening (Some m) es in
    completes_by opening h r says_00 is
    (unkept opening h r Completion is (λ e. absurd (cc)) new)
    (subst (Results opening h r says_00) is (told_is (result_on m opening es r) said))

pub reverses_only : (m : List ℕ) → statement.ReversesOnly m
reverses_only m opening es r fits new said =
    let h = history_of opening (Some m) es in
    reverses_by opening h r says_00 r.service refl fits
    (unkept opening h r r.service refl (λ e. not_managed r.service e fits) new)
    (told_is (result_on m opening es r) said)
  where
    not_managed : (s : Service) → s ≡ NetworkManagement → is_reversal s ≡ true → ⊥
    not_managed s e fits = absurd (let no = sym (ap is_reversal e) ∙ fits in cc)
