-- By cases over a step: what holds in each case that the tables allow holds of what is decided on
-- them. A case hands out all that the checks have shown.
use Rattle.std.proofs.Common.{◌≡◌, ℕ, ◌+◌, ◌<◌, ◌≤◌, List, [], ◌∷◌, Option, Some, None, Bool, true}
use Rattle.std.proofs.Common.{false, refl, sym, ap, ap₂, ◌∙◌, subst, ltb}
use Rattle.std.specs.Prelude.{not, nat_lt, ◌==◌, ◌&&◌, option_and_then, find, if◌then◌else◌}
use Rattle.std.specs.List.{list_all, list_any}
use Rattle.std.specs.Str.{bytes_eq}
use Rattle.std.proofs.lemmas.Bool.{and_parts, ltb-true, ltb-false}
use Rattle.iso_codec.specs.Message.{IsoMessage, content_of}
use Rattle.card_no.specs.declared.range.Range.{Range}
use Rattle.card_no.specs.CardNumbers.{is_valid_card}
use Rattle.card_no.specs.Ranges.{is_valid_range, holds_prefix, range_of_prefix, between}
use Rattle.card_no.specs.Ranges.{overlapped_by, has_ends}
use Rattle.day_totals.specs.Day.{last_day}
use Rattle.acq_message.specs.declared.service.Service.{Service}
use Rattle.acq_message.specs.declared.service.Service.TheVariants.{Authorization, Financial}
use Rattle.acq_message.specs.declared.service.Service.TheVariants.{Completion, Reversal}
use Rattle.acq_message.specs.declared.service.Service.TheVariants.{ReversalAdvice, Reconciliation}
use Rattle.acq_message.specs.declared.service.Service.TheVariants.{NetworkManagement}
use Rattle.acq_message.specs.declared.verdict.Verdict.{Verdict}
use Rattle.acq_message.specs.declared.response_code.ResponseCode.{ResponseCode}
use Rattle.acq_message.specs.declared.response_code.ResponseCode.TheVariants as code
use Rattle.acq_message.specs.declared.request_message.RequestMessage.{RequestMessage}
use Rattle.acq_message.specs.Numbers.{is_accepted_amount}
use Rattle.acq_message.specs.Elements.{text_at, key_of, amount_in, or_empty, essence_of}
use Rattle.acq_message.specs.Elements.{original_acquirer, remaining_in}
use Rattle.acq_message.specs.Cards.{card_of, expiry_of}
use Rattle.acq_core.specs.declared.merchant.Merchant.{Merchant}
use Rattle.acq_core.specs.declared.terminal.Terminal.{Terminal}
use Rattle.acq_core.specs.declared.request.Request.{Request}
use Rattle.acq_core.specs.declared.status.Status.{Status}
use Rattle.acq_core.specs.declared.status.Status.TheVariants.{Pending, ReversedPending}
use Rattle.acq_core.specs.declared.output.Output.{Output}
use Rattle.acq_core.specs.declared.output.Output.TheVariants as output
use Rattle.acq_core.specs.declared.arrival.Arrival.{Arrival}
use Rattle.acq_core.specs.declared.arrival.Arrival.TheVariants.{Undecoded, Unserved, Malformed}
use Rattle.acq_core.specs.declared.arrival.Arrival.TheVariants.{Requested, Answered, CutOver}
use Rattle.acq_core.specs.declared.arrival.Arrival.TheVariants.{RangeAdded, RangeDropped, Enrolled}
use Rattle.acq_core.specs.declared.arrival.Arrival.TheVariants.{TerminalAdded}
use Rattle.acq_core.specs.Known.{Known, Prior, reconciled_day, number_if, used_if}
use Rattle.acq_core.specs.Known.{wanted_for}
use Rattle.acq_core.specs.Decision.{Decision, Reports, Replies, Repeats, Refuses, Admits, Completes}
use Rattle.acq_core.specs.Decision.{Reverses, Reconciles, Answers, CutsOver, AddsRange, DropsRange}
use Rattle.acq_core.specs.Decision.{Enrols, AddsTerminal, first_of, is_full, is_other_transaction}
use Rattle.acq_core.specs.Decision.{is_expired, is_open_at, open_hold, fits_acquirer, original_of}
use Rattle.acq_core.specs.Decision.{admission_in, admission, completion_of, completion, reversal_of}
use Rattle.acq_core.specs.Decision.{reconciliation_of, is_network_code, network_response}
use Rattle.acq_core.specs.Decision.{is_awaited, is_final_for, leaves_a_part}
use Rattle.acq_core.specs.Decision.{decision_by, repeat_of, decision_of_key, decision_of_merchant}
use Rattle.acq_core.specs.Decision.{decision_of_request, decision_of_reply_state, decision_of_prior}
use Rattle.acq_core.specs.Decision.{decision_of_answer, decision_of_new_range}
use Rattle.acq_core.specs.Decision.{decision_of_old_range, decision_of_enrolment}
use Rattle.acq_core.specs.Decision.{decision_of_terminal, decision}
use Rattle.acq_core.specs.Tables.{Tables, prior_of, reply_state_of, is_reversible, requests_of}
use Rattle.acq_core.specs.Tables.{recorded_in, referred_in, admitted_in, used_in, known_in}
use Rattle.acq_core.proofs.DecisionCases.{IsFresh, CanBeReversed}
use Rattle.acq_soundness.specs.Requests.{is_admissible, is_reversal}
use Rattle.acq_soundness.proofs.Lookups.{not_false, or_split, then_some}
use Rattle.acq_soundness.proofs.Members.{In, In-find}
use Rattle.acq_soundness.proofs.RecordableRequests.{WantsByKey, wants_by_key, recordable_some}
use Rattle.acq_soundness.proofs.RecordableRequests.{takes_room, admissible_takes_room}
use Rattle.acq_soundness.proofs.RecordableRequests.{reversal_takes_room, wants_room}
use Rattle.acq_soundness.proofs.RecordableRequests.{wants_reference}
use Rattle.acq_soundness.proofs.FoundRows.{IsNew, row_of_key, row_of_reference, is_new}
use Rattle.acq_soundness.proofs.Keys.{eqb_is}

-- the codes that the host gives of itself, and not in an issuer's words
abbrev pub is_hosts : ResponseCode → Bool
is_hosts (code.Declined text) = false
is_hosts given = true

-- an output that is a reply
abbrev pub is_reply : Output → Bool
is_reply (output.Reply party text) = true
is_reply other = false

-- ---- what the tables show

-- the day of the request's merchant admits one more
abbrev pub HasRoom : Tables → RequestMessage → Type 0
HasRoom t r = used_in (requests_of (text_at r.message 42) t.requests) t.day < t.limit

-- the reference that the request's merchant gives next
abbrev pub next_reference : Tables → RequestMessage → Merchant → ℕ
next_reference t r merchant =
    merchant.first_reference + admitted_in (requests_of (text_at r.message 42) t.requests)

-- a request that is recorded: its merchant is enrolled, and its key is new
pub record IsRecording (t : Tables) (a : Arrival) (r : RequestMessage)
    (merchant : Merchant) : Type 0 where
  pub came : a ≡ Requested r
  pub recordable : r.service ≡ NetworkManagement → ⊥
  pub enrolled : find (λ row. bytes_eq row.id (text_at r.message 42)) t.merchants ≡ Some merchant
  pub new : IsNew t (key_of r.service r.message)

-- an authorization, a sale or a return that is admitted
pub record IsAdmission (t : Tables) (r : RequestMessage) (merchant : Merchant)
    (range : Range) : Type 0 where
  pub service : is_admissible r.service ≡ true
  pub transaction : is_other_transaction merchant r ≡ false
  pub amount : is_accepted_amount (amount_in r.message) ≡ true
  pub card : is_valid_card (or_empty (card_of r.message)) ≡ true
  pub unexpired : is_expired t.day (expiry_of r.message) ≡ false
  pub held : In range t.ranges
  pub room : HasRoom t r

-- a completion of a hold of its merchant's that is open when it comes
pub record IsCompletion (t : Tables) (r : RequestMessage) (merchant : Merchant)
    (hold : Request) : Type 0 where
  pub service : r.service ≡ Completion
  pub transaction : is_other_transaction merchant r ≡ false
  pub amount : is_accepted_amount (amount_in r.message) ≡ true
  pub member : In hold t.requests
  pub own : hold.key.merchant ≡ text_at r.message 42
  pub number : ℕ
  pub reference : hold.reference ≡ Some number
  pub opens : is_open_at r.moment (prior_of hold).hold_end ≡ true
  pub within : amount_in r.message ≤ hold.amount
  pub room : HasRoom t r

-- what is known of a request that can be reversed
pub record AllowsReversal (r : RequestMessage) (p : Prior) : Type 0 where
  pub reversible : p.is_reversible ≡ true
  pub answered : (is_awaited p.reply_state && nat_lt 0 (remaining_in r.message)) ≡ false
  pub amount : amount_in r.message ≡ p.amount
  pub less : remaining_in r.message < p.amount

pub can_be_reversed : (r : RequestMessage) (p : Prior) → CanBeReversed r p → AllowsReversal r p
can_be_reversed r p can =
    let remaining = remaining_in r.message in
    let checks =
    or_split (not p.is_reversible) (is_awaited p.reply_state && nat_lt 0 remaining) can.not_final in
    let part = and_parts (amount_in r.message == p.amount) (nat_lt remaining p.amount) can.less in
    record {
      reversible = not_false p.is_reversible checks.0;
      answered = checks.1;
      amount = eqb_is (amount_in r.message) p.amount part.0;
      less = ltb-true remaining p.amount part.1;
    }

-- a reversal of a request of its merchant's that can be reversed
pub record IsReversal (t : Tables) (r : RequestMessage) (row : Request) : Type 0 where
  pub service : is_reversal r.service ≡ true
  pub member : In row t.requests
  pub own : row.key.merchant ≡ text_at r.message 42
  pub acquirer : fits_acquirer (original_acquirer r.message) row.acquirer ≡ true
  pub reversible : is_reversible row.status ≡ true
  -- where a part is to remain, it waits for no answer
  pub answered :
      (is_awaited (reply_state_of row.status row.reply) && nat_lt 0 (remaining_in r.message))
      ≡ false
  pub amount : amount_in r.message ≡ row.amount
  pub less : remaining_in r.message < row.amount
  pub room : HasRoom t r

-- a reconciliation of a day
pub record IsReconciling (t : Tables) (r : RequestMessage) (day : ℕ) : Type 0 where
  pub service : r.service ≡ Reconciliation
  pub resolves : reconciled_day t.day (content_of r.message.elements 15) ≡ Some day

-- an answer to a pending request
pub record IsAnswering (t : Tables) (a : Arrival) (moment : ℕ) (v : Verdict)
    (row : Request) : Type 0 where
  pub merchant : List ℕ
  pub named : ℕ
  pub came : a ≡ Answered moment merchant named v
  pub member : In row t.requests
  pub own : row.key.merchant ≡ merchant
  pub number : ℕ
  pub reference : row.reference ≡ Some number
  pub pending : row.status ≡ Pending

-- what is to be shown of each decision on what came
pub record StepCases (t : Tables) (a : Arrival) (P : Decision → Type 0) : Type 0 where
  -- nothing changes
  pub reported : (o : Output) → is_reply o ≡ false → P (Reports o)
  pub malformed : (r : RequestMessage) → a ≡ Malformed r → P (Replies r code.FormatError)
  pub replied : (r : RequestMessage) → a ≡ Requested r → (given : ResponseCode) →
      is_hosts given ≡ true → P (Replies r given)
  pub repeated : (row : Request) → In row t.requests → P (Repeats row.reply)
  -- a request is recorded
  pub refused : (r : RequestMessage) (merchant : Merchant) → IsRecording t a r merchant →
      (given : ResponseCode) → is_hosts given ≡ true → P (Refuses r given)
  pub admitted : (r : RequestMessage) (merchant : Merchant) → IsRecording t a r merchant →
      (range : Range) → IsAdmission t r merchant range →
      P (Admits r range (next_reference t r merchant))
  pub completed : (r : RequestMessage) (merchant : Merchant) → IsRecording t a r merchant →
      (hold : Request) → IsCompletion t r merchant hold → P (Completes r (prior_of hold))
  pub reversed : (r : RequestMessage) (merchant : Merchant) → IsRecording t a r merchant →
      (row : Request) → IsReversal t r row → P (Reverses r (prior_of row))
  pub reconciled : (r : RequestMessage) (merchant : Merchant) → IsRecording t a r merchant →
      (day : ℕ) → IsReconciling t r day → P (Reconciles r day)
  -- a pending request is answered
  pub answered : (moment : ℕ) (v : Verdict) (row : Request) → IsAnswering t a moment v row →
      P (Answers moment v (prior_of row) row.reply)
  -- what all share, or a merchant's enrolment, is changed
  pub cut_over : a ≡ CutOver → t.day < last_day → P CutsOver
  pub range_added : (range : Range) → a ≡ RangeAdded range → is_valid_range range ≡ true →
      overlapped_by (between range.low range.high) t.ranges ≡ None → P (AddsRange range)
  pub range_dropped : (low high : ℕ) → a ≡ RangeDropped low high → P (DropsRange low high)
  pub enrolled : (merchant : Merchant) → a ≡ Enrolled merchant →
      find (λ row. bytes_eq row.id merchant.id) t.merchants ≡ None → P (Enrols merchant)
  pub terminal_added : (terminal : Terminal) → a ≡ TerminalAdded terminal →
      list_any (λ row. bytes_eq row.merchant terminal.merchant && bytes_eq row.id terminal.id)
      t.terminals ≡ false →
      P (AddsTerminal terminal)

-- ---- requests

-- none of the refusals applies
abbrev NoneApplies : List (Bool × ResponseCode) → Type 0
NoneApplies [] = Unit {0}
NoneApplies (x ∷ xs) = (x.0 ≡ false) × NoneApplies xs

-- one of the refusals, or what is accepted where none applies
by_checks : (P : Decision → Type 0) (r : RequestMessage) (refusals : List (Bool × ResponseCode))
    (accepted : Decision) → ((given : ResponseCode) → is_hosts given ≡ true → P (Refuses r given)) →
    list_all (λ x. is_hosts x.1) refusals ≡ true →
    (NoneApplies refusals → P accepted) →
    P (first_of r refusals accepted)
by_checks P r [] accepted refuse all accept = accept tt
by_checks P r (x ∷ xs) accepted refuse all accept =
    let parts = and_parts (is_hosts x.1) (list_all (λ y. is_hosts y.1) xs) all in
    let step : (b : Bool) → x.0 ≡ b → P (if b then Refuses r x.1 else first_of r xs accepted) =
    elim [
      | true ↦ (λ e. refuse x.1 parts.0)
      | false ↦ (λ e. by_checks P r xs accepted refuse parts.1 (λ none. accept (e, none)))
    ] in
    step x.0 refl

-- the code of network management is the host's
network_response-hosts : (m : IsoMessage) → is_hosts (network_response m) ≡ true
network_response-hosts m =
    elim (is_network_code (content_of m.elements 70)) as (λ b.
    is_hosts (if b then code.Approved else code.InvalidTransaction) ≡ true)
    [ true ↦ refl | false ↦ refl ]

module _ (t : Tables) (r : RequestMessage) (P : Decision → Type 0)
    (cases : StepCases t (Requested r) P) where
  -- what the tables let the request know
  abbrev k : Known
  k = known_in t (Requested r)

  -- the request's merchant
  abbrev m : List ℕ
  m = text_at r.message 42

  wants : (r.service ≡ NetworkManagement → ⊥) →
      WantsByKey (wanted_for t.day r.service r.message) r.service r.message
  wants recordable = wants_by_key t.day r.service r r r.message
      (recordable_some r.service r recordable)

  -- a fresh request is one that is recorded
  recording : (merchant : Merchant) → IsFresh k r merchant → IsRecording t (Requested r) r merchant
  recording merchant fresh = record {
    came = refl;
    recordable = fresh.recordable;
    enrolled =
        sym (ap (option_and_then (λ id. find (λ row. bytes_eq row.id m) t.merchants))
        (wants fresh.recordable).merchant)
        ∙ fresh.enrolled;
    new =
        is_new t m (key_of r.service r.message) refl
        (sym (ap (option_and_then (recorded_in (requests_of m t.requests)))
        (wants fresh.recordable).key) ∙ fresh.new);
  }

  -- a day that isn't full has room
  room : takes_room r.service ≡ true → is_full k ≡ false → HasRoom t r
  room takes free =
      let used : k.used ≡ used_in (requests_of m t.requests) t.day =
      ap (used_if (used_in (requests_of m t.requests)))
      (wants_room t.day r.service r.message takes) in
      ltb-true (used_in (requests_of m t.requests) t.day) t.limit
      (sym (ap (λ n. nat_lt n t.limit) used) ∙ not_false (nat_lt k.used k.limit) free)

  refused : (merchant : Merchant) → IsFresh k r merchant → (given : ResponseCode) →
      is_hosts given ≡ true → P (Refuses r given)
  refused merchant fresh = cases.refused r merchant (recording merchant fresh)

  -- the checks of an authorization, a sale or a return by itself, and of a completion
  abbrev admission_checks : Merchant → List (Bool × ResponseCode)
  admission_checks merchant =
      (is_other_transaction merchant r, code.InvalidTransaction)
      ∷ (not (is_accepted_amount (amount_in r.message)), code.InvalidAmount)
      ∷ (not (is_valid_card (or_empty (card_of r.message))), code.InvalidCard)
      ∷ (is_expired k.today (expiry_of r.message), code.ExpiredCard)
      ∷ []

  abbrev completion_checks : Merchant → List (Bool × ResponseCode)
  completion_checks merchant =
      (is_other_transaction merchant r, code.InvalidTransaction)
      ∷ (not (is_accepted_amount (amount_in r.message)), code.InvalidAmount)
      ∷ []

  by_range : (merchant : Merchant) → IsFresh k r merchant → is_admissible r.service ≡ true →
      NoneApplies (admission_checks merchant) → (o : Option Range) → k.range ≡ o →
      P (admission_in k merchant r o)
  by_range merchant fresh service checked None is = refused merchant fresh code.NoSuchIssuer refl
  by_range merchant fresh service checked (Some range) is =
      by_checks P r ((is_full k, code.LimitExceeded) ∷ [])
      (Admits r range (merchant.first_reference + k.admitted))
      (refused merchant fresh) refl
      (λ none.
      let prefix =
      then_some (range_of_prefix t.ranges) (wanted_for t.day r.service r.message).prefix range is in
      subst (λ n. P (Admits r range (merchant.first_reference + n)))
      (sym (ap₂ (λ b o. number_if b (admitted_in (requests_of m t.requests)) o)
      (wants_reference t.day r.service r.message service) (wants fresh.recordable).merchant))
      (cases.admitted r merchant (recording merchant fresh) range (record {
        service = service;
        transaction = checked.0;
        amount = not_false (is_accepted_amount (amount_in r.message)) checked.1.0;
        card = not_false (is_valid_card (or_empty (card_of r.message))) checked.1.1.0;
        unexpired = checked.1.1.1.0;
        held = (In-find (holds_prefix prefix.0) t.ranges range prefix.2).0;
        room = room (admissible_takes_room r.service service) none.0;
      })))

  by_admission : (merchant : Merchant) → IsFresh k r merchant → is_admissible r.service ≡ true →
      P (admission k merchant r)
  by_admission merchant fresh service =
      by_checks P r (admission_checks merchant) (admission_in k merchant r k.range)
      (refused merchant fresh) refl
      (λ none. by_range merchant fresh service none k.range refl)

  by_hold : (merchant : Merchant) → IsFresh k r merchant → r.service ≡ Completion →
      NoneApplies (completion_checks merchant) → (o : Option Prior) → k.referred ≡ o →
      P (completion_of k r (open_hold r.moment o))
  by_hold merchant fresh service checked None is = refused merchant fresh code.RecordNotFound refl
  by_hold merchant fresh service checked (Some hold) is =
      let step : (b : Bool) → is_open_at r.moment hold.hold_end ≡ b →
      P (completion_of k r (if b then Some hold else None)) =
      elim [
        | true ↦ (λ opens.
            by_checks P r ((nat_lt hold.amount (amount_in r.message), code.InvalidAmount)
            ∷ (is_full k, code.LimitExceeded) ∷ []) (Completes r hold) (refused merchant fresh) refl
            (λ none.
            let found = row_of_reference t m (wanted_for t.day r.service r.message).reference hold
            is in
            let row = found.0.found.row in
            let says = found.0.found.says in
            subst (λ p. P (Completes r p)) says
            (cases.completed r merchant (recording merchant fresh) row (record {
              service = service;
              transaction = checked.0;
              amount = not_false (is_accepted_amount (amount_in r.message)) checked.1.0;
              member = found.0.found.member;
              own = found.1;
              number = found.0.number;
              reference = found.0.reference;
              opens = ap (λ p. is_open_at r.moment p.hold_end) says ∙ opens;
              within =
                  ltb-false row.amount (amount_in r.message)
                  (ap (λ p. nat_lt p.amount (amount_in r.message)) says ∙ none.0);
              room = room (ap takes_room service) none.1.0;
            }))))
        | false ↦ (λ shut. refused merchant fresh code.RecordNotFound refl)
      ] in
      step (is_open_at r.moment hold.hold_end) refl

  by_completion : (merchant : Merchant) → IsFresh k r merchant → r.service ≡ Completion →
      P (completion k merchant r)
  by_completion merchant fresh service =
      by_checks P r (completion_checks merchant)
      (completion_of k r (open_hold r.moment k.referred)) (refused merchant fresh) refl
      (λ none. by_hold merchant fresh service none k.referred refl)

  by_found : (merchant : Merchant) → IsFresh k r merchant → is_reversal r.service ≡ true →
      (p : Prior) → k.original ≡ Some p →
      fits_acquirer (original_acquirer r.message) p.acquirer ≡ true → P (reversal_of k r (Some p))
  by_found merchant fresh service p is fits =
      let remaining = remaining_in r.message in
      by_checks P r ((is_final_for remaining p, code.NoActionTaken)
      ∷ (not (leaves_a_part (amount_in r.message) remaining p), code.InvalidAmount)
      ∷ (is_full k, code.LimitExceeded) ∷ [])
      (Reverses r p) (refused merchant fresh) refl
      (λ none.
      let found = row_of_key t m (wanted_for t.day r.service r.message).original p is in
      let says = found.0.says in
      let can : CanBeReversed r p =
      record {
        not_final = none.0;
        less = not_false (leaves_a_part (amount_in r.message) remaining p) none.1.0;
      } in
      let shows = can_be_reversed r p can in
      subst (λ x. P (Reverses r x)) says
      (cases.reversed r merchant (recording merchant fresh) found.0.row (record {
        service = service;
        member = found.0.member;
        own = found.1;
        acquirer = ap (λ x. fits_acquirer (original_acquirer r.message) x.acquirer) says ∙ fits;
        reversible = ap (λ x. x.is_reversible) says ∙ shows.reversible;
        answered =
            ap (λ x. is_awaited x.reply_state && nat_lt 0 remaining) says ∙ shows.answered;
        amount = shows.amount ∙ sym (ap (λ x. x.amount) says);
        less = subst (λ n. remaining < n) (sym (ap (λ x. x.amount) says)) shows.less;
        room = room (reversal_takes_room r.service service) none.1.1.0;
      })))

  by_original : (merchant : Merchant) → IsFresh k r merchant → is_reversal r.service ≡ true →
      (o : Option Prior) → k.original ≡ o → P (reversal_of k r (original_of r.message o))
  by_original merchant fresh service None is = refused merchant fresh code.RecordNotFound refl
  by_original merchant fresh service (Some p) is =
      let step : (b : Bool) → fits_acquirer (original_acquirer r.message) p.acquirer ≡ b →
      P (reversal_of k r (if b then Some p else None)) =
      elim [
        | true ↦ (λ fits. by_found merchant fresh service p is fits)
        | false ↦ (λ other. refused merchant fresh code.RecordNotFound refl)
      ] in
      step (fits_acquirer (original_acquirer r.message) p.acquirer) refl

  by_day : (merchant : Merchant) → IsFresh k r merchant → r.service ≡ Reconciliation →
      (o : Option ℕ) → reconciled_day t.day (content_of r.message.elements 15) ≡ o →
      P (reconciliation_of r o)
  by_day merchant fresh service None is = refused merchant fresh code.ReconcileError refl
  by_day merchant fresh service (Some day) is = cases.reconciled r merchant
      (recording merchant fresh) day (record { service = service; resolves = is })

  by_service : (merchant : Merchant) → IsFresh k r merchant → (s : Service) → r.service ≡ s →
      P (decision_by s k merchant r)
  by_service merchant fresh Authorization is = by_admission merchant fresh (ap is_admissible is)
  by_service merchant fresh Financial is = by_admission merchant fresh (ap is_admissible is)
  by_service merchant fresh Completion is = by_completion merchant fresh is
  by_service merchant fresh Reversal is =
      by_original merchant fresh (ap is_reversal is) k.original refl
  by_service merchant fresh ReversalAdvice is =
      by_original merchant fresh (ap is_reversal is) k.original refl
  by_service merchant fresh Reconciliation is =
      by_day merchant fresh is (reconciled_day t.day (content_of r.message.elements 15)) refl
  by_service merchant fresh NetworkManagement is = absurd (fresh.recordable is)

  -- ---- before that

  by_reply_state : (row : Request) → In row t.requests → (s : Status) →
      P (repeat_of (reply_state_of s row.reply))
  by_reply_state row member Pending = cases.reported output.Waiting refl
  by_reply_state row member ReversedPending = cases.reported output.Late refl
  by_reply_state row member status = cases.repeated row member

  by_key : (merchant : Merchant) → (r.service ≡ NetworkManagement → ⊥) →
      k.merchant ≡ Some merchant → k.has_terminal ≡ true → (o : Option Prior) → k.recorded ≡ o →
      P (decision_of_key r o (decision_by r.service k merchant r))
  by_key merchant recordable there terminal None is =
      by_service merchant
      (record { recordable = recordable; enrolled = there; terminal = terminal; new = is })
      r.service refl
  by_key merchant recordable there terminal (Some p) is =
      let found = (row_of_key t m (wanted_for t.day r.service r.message).key p is).0 in
      elim (bytes_eq (essence_of r.service r.message) p.essence)
      as (λ b. P (if b then repeat_of p.reply_state else Replies r code.DuplicateTransmission)) [
        | true ↦
            subst (λ x. P (repeat_of x.reply_state)) found.says
            (by_reply_state found.row found.member found.row.status)
        | false ↦ cases.replied r refl code.DuplicateTransmission refl
      ]

  by_merchant : (r.service ≡ NetworkManagement → ⊥) → (o : Option Merchant) → k.merchant ≡ o →
      P (decision_of_merchant k r o)
  by_merchant recordable None is = cases.replied r refl code.InvalidMerchant refl
  by_merchant recordable (Some merchant) is =
      let step : (b : Bool) → k.has_terminal ≡ b →
      P (if b then decision_of_key r k.recorded (decision_by r.service k merchant r)
      else Replies r code.InvalidMerchant) =
      elim [
        | true ↦ (λ terminal. by_key merchant recordable is terminal k.recorded refl)
        | false ↦ (λ terminal. cases.replied r refl code.InvalidMerchant refl)
      ] in
      step k.has_terminal refl

  by_recordable : (s : Service) → r.service ≡ s → P (decision_of_request s k r)
  by_recordable NetworkManagement is =
      cases.replied r refl (network_response r.message) (network_response-hosts r.message)
  by_recordable service is = by_merchant (λ n. absurd (let h = sym is ∙ n in cc)) k.merchant refl

  by_request : P (decision_of_request r.service k r)
  by_request = by_recordable r.service refl

-- ---- answers

module _ (t : Tables) (moment : ℕ) (merchant : List ℕ) (reference : ℕ) (v : Verdict) (P : Decision →
    Type 0)
    (cases : StepCases t (Answered moment merchant reference v) P) where
  by_row : (row : Request) → In row t.requests → row.key.merchant ≡ merchant → (n : ℕ) →
      row.reference ≡ Some n → (s : Status) → row.status ≡ s →
      P (decision_of_reply_state moment v (prior_of row) (reply_state_of s row.reply))
  by_row row member own n under Pending is =
      cases.answered moment v row (record {
        merchant = merchant;
        named = reference;
        came = refl;
        member = member;
        own = own;
        number = n;
        reference = under;
        pending = is;
      })
  by_row row member own n under ReversedPending is = cases.reported output.Late refl
  by_row row member own n under status is = cases.reported output.AlreadyAnswered refl

  by_prior : (o : Option Prior) → referred_in (requests_of merchant t.requests) reference ≡ o →
      P (decision_of_prior moment v o)
  by_prior None is = cases.reported output.UnknownReference refl
  by_prior (Some p) is =
      let found = row_of_reference t merchant (Some reference) p is in
      let row = found.0.found.row in
      subst (λ x. P (decision_of_reply_state moment v x x.reply_state)) found.0.found.says
      (by_row row found.0.found.member found.1 found.0.number found.0.reference row.status refl)

  by_answer : (o : Option Merchant) →
      P (decision_of_answer (known_in t (Answered moment merchant reference v)) moment v o)
  by_answer None = cases.reported output.NoSuchMerchant refl
  by_answer (Some there) = by_prior (referred_in (requests_of merchant t.requests) reference) refl

-- ---- the rest

by_new_range : (t : Tables) (range : Range) (P : Decision → Type 0) →
    StepCases t (RangeAdded range) P → is_valid_range range ≡ true → (o : Option Range) →
    overlapped_by (between range.low range.high) t.ranges ≡ o → P (decision_of_new_range range o)
by_new_range t range P cases valid None is = cases.range_added range refl valid is
by_new_range t range P cases valid (Some other) is = cases.reported (output.Overlap other) refl

by_old_range : (t : Tables) (low high : ℕ) (P : Decision → Type 0) →
    StepCases t (RangeDropped low high) P →
    (o : Option Range) → P (decision_of_old_range low high o)
by_old_range t low high P cases None = cases.reported output.NoSuchRange refl
by_old_range t low high P cases (Some range) =
    elim (has_ends low high range) as
    (λ b. P (if b then DropsRange low high else Reports output.NoSuchRange)) [
      | true ↦ cases.range_dropped low high refl
      | false ↦ cases.reported output.NoSuchRange refl
    ]

by_enrolment : (t : Tables) (merchant : Merchant) (P : Decision → Type 0) →
    StepCases t (Enrolled merchant) P →
    (o : Option Merchant) → find (λ row. bytes_eq row.id merchant.id) t.merchants ≡ o →
    P (decision_of_enrolment merchant o)
by_enrolment t merchant P cases None is = cases.enrolled merchant refl is
by_enrolment t merchant P cases (Some other) is = cases.reported output.AlreadyEnrolled refl

by_terminal : (t : Tables) (terminal : Terminal) (P : Decision → Type 0) →
    StepCases t (TerminalAdded terminal) P →
    (there : Bool) →
    list_any (λ row. bytes_eq row.merchant terminal.merchant && bytes_eq row.id terminal.id)
    t.terminals ≡ there →
    (o : Option Merchant) → P (decision_of_terminal terminal there o)
by_terminal t terminal P cases there is None = cases.reported output.NoSuchMerchant refl
by_terminal t terminal P cases true is (Some merchant) = cases.reported output.Done refl
by_terminal t terminal P cases false is (Some merchant) = cases.terminal_added terminal refl is

-- what holds in each case holds of what is decided
pub by_step : (t : Tables) (a : Arrival) (P : Decision → Type 0) → StepCases t a P →
    P (decision (known_in t a) a)
by_step t (Undecoded fault) P cases = cases.reported (output.Undecodable fault) refl
by_step t (Unserved m) P cases = cases.reported (output.UnservedType m.kind) refl
by_step t (Malformed r) P cases = cases.malformed r refl
by_step t (Requested r) P cases = by_request t r P cases
by_step t (Answered moment merchant reference v) P cases =
    by_answer t moment merchant reference v P cases
    (known_in t (Answered moment merchant reference v)).merchant
by_step t CutOver P cases =
    let step : (b : Bool) → ltb t.day last_day ≡ b →
    P (if b then CutsOver else Reports output.LastDay) =
    elim [
      | true ↦ (λ e. cases.cut_over refl (ltb-true t.day last_day e))
      | false ↦ (λ e. cases.reported output.LastDay refl)
    ] in
    step (ltb t.day last_day) refl
by_step t (RangeAdded range) P cases =
    let step : (b : Bool) → is_valid_range range ≡ b →
    P (if b then decision_of_new_range range (known_in t (RangeAdded range)).overlapped else Reports
    output.BadRange) =
    elim [
      | true ↦ (λ e. by_new_range t range P cases e
          (overlapped_by (between range.low range.high) t.ranges) refl)
      | false ↦ (λ e. cases.reported output.BadRange refl)
    ] in
    step (is_valid_range range) refl
by_step t (RangeDropped low high) P cases =
    by_old_range t low high P cases (known_in t (RangeDropped low high)).overlapped
by_step t (Enrolled merchant) P cases =
    by_enrolment t merchant P cases (find (λ row. bytes_eq row.id merchant.id) t.merchants) refl
by_step t (TerminalAdded terminal) P cases =
    by_terminal t terminal P cases
    (list_any (λ row. bytes_eq row.merchant terminal.merchant && bytes_eq row.id terminal.id)
    t.terminals) refl
    (known_in t (TerminalAdded terminal)).merchant
