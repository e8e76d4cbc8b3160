-- What becomes of a recorded request by one more entry, in its row and in its history.
use Rattle.std.proofs.Common.{◌≡◌, ℕ, List, ◌∷◌, Option, Some, None, Bool, true, false, cond, refl}
use Rattle.std.proofs.Common.{sym, ap, ◌∙◌}
use Rattle.std.specs.Prelude.{find, option_map, option_and_then, ◌&&◌, ◌||◌, not, is_some, is_none}
use Rattle.std.specs.Prelude.{if◌then◌else◌, unwrap_or, nat_lt}
use Rattle.std.specs.Option.{option_or}
use Rattle.std.proofs.lemmas.Bool.{and_parts}
use Rattle.std.specs.List.{list_any}
use Rattle.std.proofs.Math.Bool.{and-false}
use Rattle.iso_codec.specs.Message.{IsoMessage, content_of}
use Rattle.acq_message.specs.declared.service.Service.{Service}
use Rattle.acq_message.specs.declared.service.Service.TheVariants.{Authorization, Financial}
use Rattle.acq_message.specs.declared.service.Service.TheVariants.{Completion, Reversal}
use Rattle.acq_message.specs.declared.service.Service.TheVariants.{ReversalAdvice, Reconciliation}
use Rattle.acq_message.specs.declared.service.Service.TheVariants.{NetworkManagement}
use Rattle.acq_message.specs.declared.request_key.RequestKey.{RequestKey}
use Rattle.acq_core.specs.declared.request.Request.{Request}
use Rattle.acq_core.specs.declared.status.Status.{Status}
use Rattle.acq_core.specs.declared.status.Status.TheVariants as status
use Rattle.acq_message.specs.declared.verdict.Verdict.{Verdict}
use Rattle.acq_message.specs.declared.verdict.Verdict.TheVariants as verdict
use Rattle.acq_message.specs.Elements.{key_of, essence_of, amount_in, reference_in, original_key}
use Rattle.acq_message.specs.declared.request_message.RequestMessage.{RequestMessage}
use Rattle.acq_core.specs.declared.reply_state.ReplyState.TheVariants.{Kept, Awaited}
use Rattle.acq_core.specs.Known.{Prior}
use Rattle.acq_core.specs.Outcome.{Outcome}
use Rattle.acq_core.specs.Changes.{end_of_hold, answered_status, answered_hold_end, reversed_status}
use Rattle.acq_core.specs.Changes.{remains_of, remains_of_hold, is_lowered}
use Rattle.acq_core.specs.Decision.{is_awaited}
use Rattle.acq_core.specs.declared.remains.Remains.{Remains}
use Rattle.acq_core.specs.Tables.{prior_of, followed_row, answered_row}
use Rattle.acq_core.specs.Tables as tables
use Rattle.acq_message.specs.Reply.{draft_reply}
use Rattle.acq_message.specs.Numbers.{is_number}
use Rattle.acq_history.specs.Entries.{Entry, reply_in, accepts, is_acceptable, is_completion}
use Rattle.acq_soundness.specs.Requests.{is_reversal}
use Rattle.acq_history.specs.Entries.{is_approved, is_acceptance, is_answer}
use Rattle.acq_history.specs.Entries.{is_completing, is_reversing, completes, reverses, is_key}
use Rattle.acq_history.specs.Entries.{approval_in, approval_by, request_of, remaining_by}
use Rattle.acq_history.specs.History.{Found, aged, next_reference, is_admitted, is_accepted}
use Rattle.acq_history.specs.History.{reference_of, reference_by, leg_by, card_by, hold_days_of}
use Rattle.acq_history.specs.History.{answer_to, is_completed, reversal_of, lowered_to, any_with}
use Rattle.acq_history.specs.History.{reply_state_with, prior}
use Rattle.acq_soundness.proofs.Lookups.{not_true, not_some, or_true, own_none}
use Rattle.acq_history.proofs.RecordedInHistory.{key_in}
use Rattle.acq_core.proofs.Statuses.{only_awaited}
use Rattle.acq_history.proofs.Statuses.{open_row, IsApproved}
use Rattle.acq_soundness.proofs.WhatRemains.{hold_ended, original_ended, left_by}
use Rattle.acq_soundness.proofs.WhatRemains.{reversed_unapproved, lowered_was_approved}
use Rattle.acq_soundness.proofs.RowsWithChanges.{followed_kept, answered_kept, IsChange}

-- ---- what became of a recorded request

-- the answer to it, whether it was completed, and what its reversal lets remain
pub record Fate : Type 0 where
  pub answer : Option Entry
  pub completed : Bool
  pub reversal : Option ℕ

-- by the entries after it
abbrev pub fate_of : Found → Fate
fate_of f =
    record { answer = answer_to f; completed = is_completed f; reversal = reversal_of f }

-- of a request that nothing came after
abbrev pub untouched : Fate
untouched = record { answer = None; completed = false; reversal = None }

-- it was reversed, and not lowered
abbrev pub is_undone_by : Service → Option ℕ → Bool
is_undone_by service reversal = is_some reversal && is_none (lowered_to service reversal)

-- until when it is open
abbrev pub open_by : Service → Option ℕ → Fate → Option ℕ
open_by Authorization days fate =
    if fate.completed || is_undone_by Authorization fate.reversal then None
    else option_and_then (λ moment. option_map (end_of_hold moment) days)
    (option_and_then (λ e. approval_in e.arrival) fate.answer)
open_by service days fate = None

-- it was answered, and not approved
abbrev is_declined_by : Fate → Bool
is_declined_by fate =
    is_some fate.answer && is_none (option_and_then (λ e. approval_in e.arrival) fate.answer)

-- what is known of it
abbrev pub prior_by : Fate → Found → Prior
prior_by fate f =
    record {
      key = key_of f.request.service f.request.message;
      essence = essence_of f.request.service f.request.message;
      day = f.entry.day;
      amount =
          unwrap_or (lowered_to f.request.service fate.reversal) (amount_in f.request.message);
      leg = leg_by f.request.service f;
      card = card_by f.request.service f;
      acquirer = content_of f.request.message.elements 32;
      reference = reference_by f.request.service f;
      hold_days = hold_days_of f;
      reply_state =
          reply_state_with
          (option_or (reply_in f.entry.outcome)
          (option_and_then (λ e. reply_in e.outcome) fate.answer))
          (is_some fate.reversal)
          (draft_reply f.entry.day f.request (next_reference f.before));
      is_reversible =
          (is_admitted f || is_accepted f) && not fate.completed
          && not (is_some fate.reversal) && not (is_declined_by fate);
      hold_end = open_by f.request.service (hold_days_of f) fate;
    }

-- what is known of it is known by what became of it; what else came later doesn't matter
prior_later : (moment : ℕ) (s : Service) (message : IsoMessage) (e : Entry)
    (before later es : List Entry) →
    let f : Found =
    record {
      request = record { moment = moment; service = s; message = message };
      entry = e;
      before = before;
      later = later;
    } in
    let g : Found = record f { later = es } in prior g ≡ prior_by (fate_of g) f
prior_later moment Completion message e before later es = refl
prior_later moment s message e before later es = refl

pub prior_is : (f : Found) → prior f ≡ prior_by (fate_of f) f
prior_is f =
    prior_later f.request.moment f.request.service f.request.message f.entry f.before f.later
    f.later

-- one entry later, by what became of it
pub prior_aged : (e : Entry) (f : Found) (fate : Fate) → fate_of (aged e f) ≡ fate →
    prior (aged e f) ≡ prior_by fate f
prior_aged e f fate is =
    prior_later f.request.moment f.request.service f.request.message f.entry f.before f.later
    (e ∷ f.later)
    ∙ ap (λ x. prior_by x f) is

-- ---- by one more entry

-- an entry that doesn't answer it leaves its answer
pub answer_more : (e : Entry) (es : List Entry) (o : Option ℕ) →
    ((n : ℕ) → o ≡ Some n → is_answer n e ≡ false) →
    option_and_then (λ n. find (is_answer n) (e ∷ es)) o ≡ option_and_then
    (λ n. find (is_answer n) es) o
answer_more e es None off = refl
answer_more e es (Some n) off = ap (λ b. cond b (Some e) (find (is_answer n) es)) (off n refl)

-- an entry that doesn't complete it leaves that too
completed_more : (e : Entry) (es : List Entry) (o : Option ℕ) →
    ((n : ℕ) → o ≡ Some n → is_completing n e ≡ false) →
    any_with is_completing o (e ∷ es) ≡ any_with is_completing o es
completed_more e es None off = refl
completed_more e es (Some n) off = ap (λ b. b || list_any (is_completing n) es) (off n refl)

-- an entry that answers it is its answer, as the newest
pub answer_here : (e : Entry) (es : List Entry) (o : Option ℕ) (n : ℕ) → o ≡ Some n →
    is_answer n e ≡ true →
    option_and_then (λ n. find (is_answer n) (e ∷ es)) o ≡ Some e
answer_here e es o n is on =
    ap (option_and_then (λ n. find (is_answer n) (e ∷ es))) is
    ∙ ap (λ b. cond b (Some e) (find (is_answer n) es)) on

-- an entry that completes it
pub completed_here : (e : Entry) (es : List Entry) (o : Option ℕ) (n : ℕ) → o ≡ Some n →
    is_completing n e ≡ true → any_with is_completing o (e ∷ es) ≡ true
completed_here e es o n is on =
    ap (λ p. any_with is_completing p (e ∷ es)) is ∙ ap (λ b. b || list_any (is_completing n) es) on

module _ (e : Entry) (f : Found) where
  -- its reversal, where the newest entry is one or isn't
  abbrev reversal_after : Bool → Option ℕ
  reversal_after b =
      option_map (λ x. remaining_by (request_of x.arrival))
      (cond b (Some e) (find (is_reversing (key_in f)) f.later))

  -- what the newest entry may do to what was found
  abbrev NoAnswer : Type 0
  NoAnswer = (n : ℕ) → reference_of f ≡ Some n → is_answer n e ≡ false

  -- it doesn't complete it
  abbrev NoCompletion : Type 0
  NoCompletion = (n : ℕ) → reference_of f ≡ Some n → is_completing n e ≡ false

  -- where the newest entry does nothing to it
  pub fate_same : NoAnswer → NoCompletion → is_reversing (key_in f) e ≡ false →
      fate_of (aged e f) ≡ fate_of f
  fate_same answers completions reversal = λ i. record {
    answer = answer_more e f.later (reference_of f) answers i;
    completed = completed_more e f.later (reference_of f) completions i;
    reversal = reversal_after (reversal i);
  }

  -- where it answers it
  pub fate_answered : (n : ℕ) → reference_of f ≡ Some n → is_answer n e ≡ true →
      NoCompletion → is_reversing (key_in f) e ≡ false →
      fate_of (aged e f) ≡ record (fate_of f) { answer = Some e }
  fate_answered n is answer completions reversal = λ i. record {
    answer = answer_here e f.later (reference_of f) n is answer i;
    completed = completed_more e f.later (reference_of f) completions i;
    reversal = reversal_after (reversal i);
  }

  -- where it completes it
  pub fate_completed : (n : ℕ) → reference_of f ≡ Some n → NoAnswer → is_completing n e ≡ true →
      is_reversing (key_in f) e ≡ false →
      fate_of (aged e f) ≡ record (fate_of f) { completed = true }
  fate_completed n is answers completion reversal = λ i. record {
    answer = answer_more e f.later (reference_of f) answers i;
    completed = completed_here e f.later (reference_of f) n is completion i;
    reversal = reversal_after (reversal i);
  }

  -- where it reverses it
  pub fate_reversed : NoAnswer → NoCompletion → is_reversing (key_in f) e ≡ true →
      (remaining : ℕ) → remaining_by (request_of e.arrival) ≡ remaining →
      fate_of (aged e f) ≡ record (fate_of f) { reversal = Some remaining }
  fate_reversed answers completions reversal remaining leaves = λ i. record {
    answer = answer_more e f.later (reference_of f) answers i;
    completed = completed_more e f.later (reference_of f) completions i;
    reversal = (ap reversal_after reversal ∙ ap (λ n. Some n) leaves) i;
  }

  -- so it is known as before where the newest entry does nothing to it
  pub prior_aged_same : NoAnswer → NoCompletion → is_reversing (key_in f) e ≡ false →
      prior (aged e f) ≡ prior f
  prior_aged_same answers completions reversal =
      prior_aged e f (fate_of f) (fate_same answers completions reversal) ∙ sym (prior_is f)

-- what is no acceptance neither completes nor reverses
completes_not : (n : ℕ) (rq : Option RequestMessage) (o : Outcome) →
    accepts is_acceptable rq o ≡ false → completes n rq o ≡ false
completes_not n None o e = refl
completes_not n (Some r) o e = step r.service (is_approved o) (is_number n (reference_in r.message))
    e
  where
    step : (s : Service) (a b : Bool) → (is_acceptable s && a) ≡ false →
        (is_completion s && a && b) ≡ false
    step Completion a b e = ap (λ t. t && b) e
    step Authorization a b e = refl
    step Financial a b e = refl
    step Reversal a b e = refl
    step ReversalAdvice a b e = refl
    step Reconciliation a b e = refl
    step NetworkManagement a b e = refl

reverses_not : (key : RequestKey) (rq : Option RequestMessage) (o : Outcome) →
    accepts is_acceptable rq o ≡ false → reverses key rq o ≡ false
reverses_not key None o e = refl
reverses_not key (Some r) o e = step r.service (is_approved o) (is_key key (original_key r.message))
    e
  where
    step : (s : Service) (a b : Bool) → (is_acceptable s && a) ≡ false →
        (is_reversal s && a && b) ≡ false
    step Completion a b e = refl
    step Authorization a b e = refl
    step Financial a b e = refl
    step Reversal a b e = ap (λ t. t && b) e
    step ReversalAdvice a b e = ap (λ t. t && b) e
    step Reconciliation a b e = refl
    step NetworkManagement a b e = refl

-- what a row and a found request show
abbrev pub line : Request → Prior × Option ℕ
line row = (prior_of row, row.reference)

-- the same of a request in a history
abbrev pub shown : Found → Prior × Option ℕ
shown f = (prior f, reference_of f)

-- an entry that changes nothing of what was found
pub shown_aged : (e : Entry) → is_acceptance e ≡ false → ((n : ℕ) → is_answer n e ≡ false) →
    (f : Found) → shown (aged e f) ≡ shown f
shown_aged e accepted answers f =
    let later : prior (aged e f) ≡ prior f =
    prior_aged_same e f (λ n is. answers n)
    (λ n is. completes_not n (request_of e.arrival) e.outcome accepted)
    (reverses_not (key_in f) (request_of e.arrival) e.outcome accepted) in
    λ i. (later i, reference_of f)

-- ---- rows

-- where a reply is awaited, none was kept
reply_state_with-awaited : (o : Option IsoMessage) (reversed : Bool) (draft d : IsoMessage) →
    reply_state_with o reversed draft ≡ Awaited d → o ≡ None
reply_state_with-awaited None reversed draft d e = refl
reply_state_with-awaited (Some reply) reversed draft d e = absurd (cc)

-- where one is kept, it is that
reply_state_with-kept : (o : Option IsoMessage) (reversed : Bool) (draft reply : IsoMessage) →
    reply_state_with o reversed draft ≡ Kept reply → o ≡ Some reply
reply_state_with-kept None true draft reply e = absurd (cc)
reply_state_with-kept None false draft reply e = absurd (cc)
reply_state_with-kept (Some own) reversed draft reply e = cc

-- a changed row keeps its leg and what it is referred by
leg_by_kept : (p q : Request) → IsChange p q → (s : Service) → tables.leg_by s q ≡ tables.leg_by s p
leg_by_kept p q c Financial = λ i. option_map (λ reference. c.leg i) (c.reference i)
leg_by_kept p q c Completion = λ i. option_map (λ reference. c.leg i) (c.follows i)
leg_by_kept p q c s = refl

reference_by_kept : (p q : Request) → IsChange p q → (s : Service) →
    tables.reference_by s q ≡ tables.reference_by s p
reference_by_kept p q c Completion = c.follows
reference_by_kept p q c s = c.reference

-- what a row shows of what became of its request
record ShowsFate (row : Request) (fate : Fate) (f : Found) : Type 0 where
  amount : row.amount ≡ (prior_by fate f).amount
  state : tables.reply_state_of row.status row.reply ≡ (prior_by fate f).reply_state
  reversible : tables.is_reversible row.status ≡ (prior_by fate f).is_reversible
  ends : tables.hold_end_by row.key.service row ≡ (prior_by fate f).hold_end

-- a changed row says what is known of its request, once it shows what became of it
prior_of_changed : (p q : Request) (f : Found) (was fate : Fate) → IsChange p q →
    prior_of p ≡ prior_by was f → ShowsFate q fate f → prior_of q ≡ prior_by fate f
prior_of_changed p q f was fate c e shows =
    λ i. record {
      key = (c.key ∙ ap (λ x. x.key) e) i;
      essence = (c.essence ∙ ap (λ x. x.essence) e) i;
      day = (c.day ∙ ap (λ x. x.day) e) i;
      amount = shows.amount i;
      leg = (ap (λ k. tables.leg_by k.service q) c.key
          ∙ (leg_by_kept p q c p.key.service ∙ ap (λ x. x.leg) e)) i;
      card = (c.card ∙ ap (λ x. x.card) e) i;
      acquirer = (c.acquirer ∙ ap (λ x. x.acquirer) e) i;
      reference = (ap (λ k. tables.reference_by k.service q) c.key
          ∙ (reference_by_kept p q c p.key.service ∙ ap (λ x. x.reference) e)) i;
      hold_days = (c.hold_days ∙ ap (λ x. x.hold_days) e) i;
      reply_state = shows.state i;
      is_reversible = shows.reversible i;
      hold_end = shows.ends i;
    }

-- ---- an answer

open_by_answered : (a : Request) (k : Service) (moment : ℕ) (v : Verdict) (reply : IsoMessage)
    (days : Option ℕ) (e : Entry) → approval_in e.arrival ≡ approval_by moment v →
    tables.hold_end_by k
    (answered_row (answered_status v) reply (answered_hold_end k moment v days) a)
    ≡ open_by k days (record untouched { answer = Some e })
open_by_answered a Authorization moment (verdict.Approved id) reply days e is =
    sym (ap (option_and_then (λ moment. option_map (end_of_hold moment) days)) is)
open_by_answered a Authorization moment (verdict.Declined text) reply days e is =
    sym (ap (option_and_then (λ moment. option_map (end_of_hold moment) days)) is)
open_by_answered a Authorization moment verdict.NoAnswer reply days e is =
    sym (ap (option_and_then (λ moment. option_map (end_of_hold moment) days)) is)
open_by_answered a s moment v reply days e is = refl

reply_state_of-answered : (v : Verdict) (reply : IsoMessage) →
    tables.reply_state_of (answered_status v) reply ≡ Kept reply
reply_state_of-answered (verdict.Approved id) reply = refl
reply_state_of-answered other reply = refl

is_reversible_answered : (moment : ℕ) (v : Verdict) →
    tables.is_reversible (answered_status v) ≡ not (is_none (approval_by moment v))
is_reversible_answered moment (verdict.Approved id) = refl
is_reversible_answered moment other = refl

-- a pending row that is answered
pub prior_of_answered : (a : Request) (f : Found) (fate : Fate) (draft : IsoMessage) (moment : ℕ)
    (v : Verdict) (reply : IsoMessage) (e : Entry) →
    prior_of a ≡ prior_by fate f → (prior_by fate f).reply_state ≡ Awaited draft →
    approval_in e.arrival ≡ approval_by moment v → reply_in e.outcome ≡ Some reply →
    prior_of (answered_row (answered_status v) reply
    (answered_hold_end f.request.service moment v (hold_days_of f)) a)
    ≡ prior_by (record fate { answer = Some e }) f
prior_of_answered a f fate draft moment v reply e is pending approval replied =
    let until = answered_hold_end f.request.service moment v (hold_days_of f) in
    let waits : a.status ≡ status.Pending =
    only_awaited a.status a.reply draft (ap (λ x. x.reply_state) is ∙ pending) in
    let taken = is_admitted f || is_accepted f in
    let reversible : true ≡ (prior_by fate f).is_reversible =
    sym (ap tables.is_reversible waits) ∙ ap (λ x. x.is_reversible) is in
    let last =
    and_parts (taken && not fate.completed && not (is_some fate.reversal))
    (not (is_declined_by fate)) (sym reversible) in
    let third = and_parts (taken && not fate.completed) (not (is_some fate.reversal)) last.0 in
    let second = and_parts taken (not fate.completed) third.0 in
    let completed = not_true fate.completed second.1 in
    let reversed : fate.reversal ≡ None = not_some fate.reversal third.1 in
    let own : reply_in f.entry.outcome ≡ None =
    own_none (reply_in f.entry.outcome) _
    (reply_state_with-awaited _ (is_some fate.reversal) _ draft pending) in
    let at : a.key.service ≡ f.request.service = ap (λ x. x.key.service) is in
    prior_of_changed a (answered_row (answered_status v) reply until a) f fate
    (record fate { answer = Some e }) (answered_kept (answered_status v) reply until a) is
    (record {
      amount = ap (λ x. x.amount) is;
      state = reply_state_of-answered v reply
          ∙ (λ i. reply_state_with (option_or (sym own i) (sym replied i)) (is_some fate.reversal)
          (draft_reply f.entry.day f.request (next_reference f.before)));
      reversible = is_reversible_answered moment v
          ∙ (λ i. sym second.0 i && sym second.1 i && sym third.1 i
          && not (true && is_none (sym approval i)));
      ends = (λ i. tables.hold_end_by (at i) (answered_row (answered_status v) reply until a))
          ∙ (open_by_answered a f.request.service moment v reply (hold_days_of f) e approval
          ∙ (λ i. open_by f.request.service (hold_days_of f)
          (record { answer = Some e; completed = sym completed i; reversal = sym reversed i })));
    })

-- ---- a completion

-- what was completed isn't open
open_by_completed : (row : Request) (k : Service) (days : Option ℕ) (fate : Fate) →
    tables.is_approved row.status ≡ false →
    tables.hold_end_by k row ≡ open_by k days (record fate { completed = true })
open_by_completed row Authorization days fate off = ap (λ b. cond b row.hold_end None) off
open_by_completed row s days fate off = refl

-- an open hold that is completed
pub prior_of_completed : (a : Request) (f : Found) (fate : Fate) → prior_of a ≡ prior_by fate f →
    is_some (prior_by fate f).hold_end ≡ true →
    prior_of (followed_row (remains_of_hold (prior_by fate f)) a)
    ≡ prior_by (record fate { completed = true }) f
prior_of_completed a f fate is ends =
    let left = remains_of_hold (prior_by fate f) in
    let ended = hold_ended (prior_by fate f) in
    let was : IsApproved a.status =
    (open_row a.key.service a (ap (λ x. is_some x.hold_end) is ∙ ends)).1 in
    let at : a.key.service ≡ f.request.service = ap (λ x. x.key.service) is in
    prior_of_changed a (followed_row left a) f fate
    (record fate { completed = true }) (followed_kept left a) is
    (record {
      amount = refl;
      state = sym (was.kept a.reply) ∙ ap (λ x. x.reply_state) is;
      reversible = ended.reversible
          ∙ sym (ap (λ b. b && not (is_some fate.reversal) && not (is_declined_by fate))
          (and-false (is_admitted f || is_accepted f)));
      ends = (λ i. tables.hold_end_by (at i) (followed_row left a))
          ∙ open_by_completed (followed_row left a) f.request.service (hold_days_of f) fate refl;
    })

-- ---- a reversal

reply_state_of-reversed : (s : Status) (reply : IsoMessage) (o : Option IsoMessage) (r : Bool)
    (draft : IsoMessage) →
    tables.is_reversible s ≡ true → tables.reply_state_of s reply ≡ reply_state_with o r draft →
    tables.reply_state_of (reversed_status (tables.reply_state_of s reply)) reply
    ≡ reply_state_with o true draft
reply_state_of-reversed status.Pending reply o r draft reversible is =
    ap (λ p. reply_state_with p true draft)
    (sym (reply_state_with-awaited o r draft reply (sym is)))
reply_state_of-reversed status.Approved reply o r draft reversible is =
    ap (λ p. reply_state_with p true draft) (sym (reply_state_with-kept o r draft reply (sym is)))
reply_state_of-reversed s reply o r draft reversible is = absurd (cc)

-- a request that can be reversed, and is
module _ (a : Request) (f : Found) (fate : Fate) (remaining : ℕ) (is : prior_of a ≡ prior_by fate f)
    (reversible : (prior_by fate f).is_reversible ≡ true)
    (answered : (is_awaited (prior_by fate f).reply_state && nat_lt 0 remaining) ≡ false) where
  abbrev p : Prior
  p = prior_by fate f

  -- what remains of it, whether it is lowered or not
  abbrev left : Bool → Remains
  left lowered = left_by lowered p remaining

  -- it had no reversal
  first : fate.reversal ≡ None
  first =
      let taken = (is_admitted f || is_accepted f) && not fate.completed in
      let some = not (is_some fate.reversal) in
      not_some fate.reversal
      (and_parts taken some
      (and_parts (taken && some) (not (is_declined_by fate)) reversible).0).1

  -- where it is lowered, it was approved
  approved : is_lowered f.request.service remaining ≡ true → a.status ≡ status.Approved
  approved =
      lowered_was_approved a.status a.reply f.request.service remaining
      (ap (λ x. x.is_reversible) is ∙ reversible)
      (ap (λ x. is_awaited x.reply_state && nat_lt 0 remaining) is ∙ answered)

  amount_left : (b : Bool) →
      (left b).amount ≡ unwrap_or (cond b (Some remaining) None) (amount_in f.request.message)
  amount_left true = refl
  amount_left false =
      ap (λ o. unwrap_or (lowered_to f.request.service o) (amount_in f.request.message)) first

  state_left : (b : Bool) → is_lowered f.request.service remaining ≡ b →
      tables.reply_state_of (left b).status a.reply
      ≡ (prior_by (record fate { reversal = Some remaining }) f).reply_state
  state_left true e =
      let was = approved e in
      ap (λ o. reply_state_with o true (draft_reply f.entry.day f.request
      (next_reference f.before)))
      (sym (reply_state_with-kept _ (is_some fate.reversal) _ a.reply
      (sym (ap (λ x. x.reply_state) is) ∙ ap (λ s. tables.reply_state_of s a.reply) was)))
  state_left false e =
      ap (λ x. tables.reply_state_of (reversed_status x) a.reply)
      (sym (ap (λ x. x.reply_state) is))
      ∙ reply_state_of-reversed a.status a.reply _ (is_some fate.reversal) _
      (ap (λ x. x.is_reversible) is ∙ reversible) (ap (λ x. x.reply_state) is)

  -- a hold stays open where something remains
  hold_left : (b : Bool) → (b ≡ true → a.status ≡ status.Approved) →
      tables.hold_end_by Authorization a ≡ open_by Authorization (hold_days_of f) fate →
      tables.hold_end_by Authorization (followed_row (left b) a)
      ≡ (if fate.completed || is_none (cond b (Some remaining) None) then None
      else option_and_then (λ moment. option_map (end_of_hold moment) (hold_days_of f))
      (option_and_then (λ e. approval_in e.arrival) fate.answer))
  hold_left true approves was =
      sym (ap (λ s. cond (tables.is_approved s) a.hold_end None) (approves refl))
      ∙ (was
      ∙ ap (λ o. open_by Authorization (hold_days_of f) (record fate { reversal = o })) first)
  hold_left false approves was =
      ap (λ b. cond b a.hold_end None) (reversed_unapproved p.reply_state)
      ∙ sym (ap (λ b. cond b None
      (option_and_then (λ moment. option_map (end_of_hold moment) (hold_days_of f))
      (option_and_then (λ e. approval_in e.arrival) fate.answer))) (or_true fate.completed))

  end_left : (k : Service) → (is_lowered k remaining ≡ true → a.status ≡ status.Approved) →
      tables.hold_end_by k a ≡ open_by k (hold_days_of f) fate →
      tables.hold_end_by k (followed_row (left (is_lowered k remaining)) a)
      ≡ open_by k (hold_days_of f) (record fate { reversal = Some remaining })
  end_left Authorization approves was = hold_left (nat_lt 0 remaining) approves was
  end_left k approves was = refl

  pub prior_of_reversed : prior_of (followed_row (remains_of p remaining) a)
      ≡ prior_by (record fate { reversal = Some remaining }) f
  prior_of_reversed =
      let lowered = is_lowered f.request.service remaining in
      let at : a.key.service ≡ f.request.service = ap (λ x. x.key.service) is in
      prior_of_changed a (followed_row (left lowered) a) f fate
      (record fate { reversal = Some remaining }) (followed_kept (left lowered) a) is
      (record {
        amount = amount_left lowered;
        state = state_left lowered refl;
        reversible =
            (original_ended p remaining).reversible
            ∙ sym (ap (λ b. b && not (is_declined_by fate))
            (and-false ((is_admitted f || is_accepted f) && not fate.completed)));
        ends = (λ i. tables.hold_end_by (at i) (followed_row (left lowered) a))
            ∙ end_left f.request.service approved
            (sym (λ i. tables.hold_end_by (at i) a) ∙ ap (λ x. x.hold_end) is);
      })
