-- An answer, a completion and a reversal edit the row of the request that the newest entry speaks
-- of, and edit it alike.
use Rattle.std.proofs.Common.{◌≡◌, ℕ, List, Some, Bool, true, false, refl, sym, ap, ◌∙◌, eqb, cond}
use Rattle.std.proofs.Common.{subst}
use Rattle.std.specs.Prelude.{◌&&◌, is_some}
use Rattle.iso_codec.specs.Message.{IsoMessage}
use Rattle.card_no.specs.declared.range.Range.{Range}
use Rattle.acq_message.specs.declared.service.Service.{Service}
use Rattle.acq_message.specs.declared.service.Service.TheVariants.{Completion}
use Rattle.acq_message.specs.declared.request_key.RequestKey.{RequestKey}
use Rattle.acq_core.specs.declared.request.Request.{Request}
use Rattle.acq_message.specs.declared.verdict.Verdict.{Verdict}
use Rattle.acq_message.specs.declared.response_code.ResponseCode.TheVariants as code
use Rattle.acq_message.specs.Elements.{same_key, reference_in, original_key, remaining_in}
use Rattle.acq_message.specs.declared.request_message.RequestMessage.{RequestMessage}
use Rattle.acq_core.specs.declared.arrival.Arrival.TheVariants.{Requested, Answered}
use Rattle.acq_core.specs.Known.{Prior}
use Rattle.acq_core.specs.declared.reply_state.ReplyState.TheVariants.{Awaited}
use Rattle.acq_core.specs.Outcome.{Replied, Outcome}
use Rattle.acq_message.specs.Reply.{verdict_code}
use Rattle.acq_core.specs.Changes.{answered_status, answered_hold_end}
use Rattle.acq_core.specs.Changes.{remains_of, remains_of_hold}
use Rattle.acq_core.specs.Tables.{prior_of, followed_row, answered_row}
use Rattle.acq_message.specs.Numbers.{is_number}
use Rattle.acq_soundness.specs.Requests.{is_reversal}
use Rattle.acq_history.specs.Entries.{Entry, request_of, is_completing, is_completion}
use Rattle.acq_history.specs.Entries.{is_reversing, is_key, completes, reverses, remaining_by}
use Rattle.acq_history.specs.History.{Found, aged, recorded, referred, reference_of, prior}
use Rattle.acq_history.specs.History.{hold_days_of}
use Rattle.acq_soundness.proofs.Lookups.{some_is, clash}
use Rattle.acq_soundness.proofs.Keys.{same_key_is, same_key_itself, eqb_is, eqb_itself}
use Rattle.acq_history.proofs.RecordedInHistory.{key_in, IsFoundAgain, referred_is, recorded_is}
use Rattle.acq_history.proofs.RequestsAfterNewEntry.{line, shown, prior_is, prior_aged_same}
use Rattle.acq_history.proofs.RequestsAfterNewEntry.{prior_of_answered, prior_of_completed}
use Rattle.acq_history.proofs.RequestsAfterNewEntry.{prior_of_reversed, fate_of, prior_aged}
use Rattle.acq_history.proofs.RequestsAfterNewEntry.{fate_answered, fate_completed, fate_reversed}
use Rattle.acq_history.proofs.RequestsAfterNewEntry.{prior_by}
use Rattle.acq_history.proofs.RowsAgreeWithHistory.{FollowsEntry}
use Rattle.acq_soundness.proofs.RowsWithChanges.{changing, Edits, followed_kept, answered_kept}
use Rattle.acq_core.proofs.DecisionCases.{CanBeReversed}
use Rattle.acq_soundness.proofs.StepCases.{AllowsReversal, can_be_reversed}
use Rattle.acq_core.specs.declared.remains.Remains.{Remains}
use Rattle.acq_core.specs.declared.arrival.Arrival.{Arrival}

-- the entry of what came
abbrev pub entry_on : ℕ → List Range → Arrival → Outcome → Entry
entry_on day ranges a o = record { arrival = a; day = day; ranges = ranges; outcome = o }

-- what is found under a reference is what stands under its key
pub same_found : (h : List Entry) (f g : Found) → IsFoundAgain h f → recorded (key_in g) h ≡ Some g →
    key_in f ≡ key_in g → f ≡ g
same_found h f g again own keys = some_is f g (sym again.own ∙ (ap (λ k. recorded k h) keys ∙ own))

-- an edit of the one row that stands for a request says what the history says of it one entry
-- later, where that entry leaves all others
edit_follows : (h : List Entry) (e : Entry) (g : Found) (changed : Request → Request) →
    Edits changed → recorded (key_in g) h ≡ Some g →
    ((a : Request) → prior_of a ≡ prior g → prior_of (changed a) ≡ prior (aged e g)) →
    ((f : Found) → IsFoundAgain h f → (f ≡ g → ⊥) → prior (aged e f) ≡ prior f) →
    FollowsEntry (changing (key_in g) changed) e h
edit_follows h e g changed edits own here others a f again same =
    step (same_key a.key (key_in g)) refl
  where
    row_key : a.key ≡ key_in f
    row_key = ap (λ x. x.0.key) same

    step : (b : Bool) → same_key a.key (key_in g) ≡ b →
        line (cond b (changed a) a) ≡ shown (aged e f)
    step true t =
        let fg : f ≡ g = same_found h f g again own
        (sym row_key ∙ same_key_is a.key (key_in g) t) in
        subst (λ x. line (changed a) ≡ shown (aged e x)) (sym fg)
        (λ i. (
          here a (ap (λ x. x.0) same ∙ ap prior fg) i,
          ((edits a).reference ∙ (ap (λ x. x.1) same ∙ ap reference_of fg)) i,
        ))
    step false t =
        let other : f ≡ g → ⊥ = λ fg.
        clash (same_key a.key (key_in g))
        (ap (λ k. same_key a.key k) (sym (row_key ∙ ap key_in fg)) ∙ same_key_itself a.key) t in
        λ i. ((ap (λ x. x.0) same ∙ sym (others f again other)) i, (same i).1)

-- another request has another reference
pub other_number : (h : List Entry) (n : ℕ) (g : Found) → referred n h ≡ Some g → (f : Found) →
    IsFoundAgain h f → (f ≡ g → ⊥) → (k : ℕ) → reference_of f ≡ Some k → eqb n k ≡ false
other_number h n g found f again other k numbered = step (eqb n k) refl
  where
    step : (b : Bool) → eqb n k ≡ b → b ≡ false
    step true e =
        let same : reference_of f ≡ Some n = numbered ∙ ap (λ x. Some x) (sym (eqb_is n k e)) in
        absurd (other (some_is f g (sym (again.numbered n same) ∙ found)))
    step false e = refl

module _ (h : List Entry) (n : ℕ) (g : Found) (p : Prior) (found : referred n h ≡ Some g)
    (is : prior g ≡ p) where
  -- so it is with an answer
  pub answer_follows : (moment day : ℕ) (merchant : List ℕ) (v : Verdict) (ranges : List Range)
      (reply draft : IsoMessage) → p.reply_state ≡ Awaited draft → FollowsEntry
      (changing p.key (answered_row (answered_status v) reply
      (answered_hold_end p.key.service moment v p.hold_days)))
      (entry_on day ranges (Answered moment merchant n v) (Replied (verdict_code v) reply)) h
  answer_follows moment day merchant v ranges reply draft pending =
      let e = entry_on day ranges (Answered moment merchant n v) (Replied (verdict_code v) reply) in
      let until = answered_hold_end g.request.service moment v (hold_days_of g) in
      let there = referred_is n h g found in
      subst (λ x. FollowsEntry
      (changing x.key (answered_row (answered_status v) reply
      (answered_hold_end x.key.service moment v x.hold_days))) e h) is
      (edit_follows h e g (answered_row (answered_status v) reply until)
      (answered_kept (answered_status v) reply until) there.1
      (λ a same.
      prior_of_answered a g (fate_of g) draft moment v reply e (same ∙ prior_is g)
      (ap (λ x. x.reply_state) (sym (prior_is g) ∙ is) ∙ pending) refl refl
      ∙ sym (prior_aged e g _
      (fate_answered e g n there.0 (ap (λ b. b && true) (eqb_itself n)) (λ k is. refl) refl)))
      (λ f again other.
      prior_aged_same e f
      (λ k numbered. ap (λ b. b && true) (other_number h n g found f again other k numbered))
      (λ k is. refl) refl))

  -- and with a completion
  pub completion_follows : (moment day : ℕ) (message : IsoMessage) (ranges : List Range)
      (reply : IsoMessage) →
      reference_in message ≡ Some n → is_some p.hold_end ≡ true →
      FollowsEntry (changing p.key (followed_row (remains_of_hold p)))
      (entry_on day ranges
      (Requested (record { moment = moment; service = Completion; message = message }))
      (Replied code.Approved reply)) h
  completion_follows moment day message ranges reply asks ends =
      let e =
      entry_on day ranges
      (Requested (record { moment = moment; service = Completion; message = message }))
      (Replied code.Approved reply) in
      let by : (k : ℕ) → is_completing k e ≡ eqb n k = λ k. ap (is_number k) asks in
      let there = referred_is n h g found in
      let left = remains_of_hold (prior_by (fate_of g) g) in
      subst (λ x. FollowsEntry (changing x.key (followed_row (remains_of_hold x))) e h)
      (sym (prior_is g) ∙ is)
      (edit_follows h e g (followed_row left) (followed_kept left) there.1
      (λ a same.
      prior_of_completed a g (fate_of g) (same ∙ prior_is g)
      (ap (λ x. is_some x.hold_end) (sym (prior_is g) ∙ is) ∙ ends)
      ∙ sym (prior_aged e g _
      (fate_completed e g n there.0 (λ k is. refl) (by n ∙ eqb_itself n) refl)))
      (λ f again other.
      prior_aged_same e f (λ k is. refl)
      (λ k numbered. by k ∙ other_number h n g found f again other k numbered) refl))

is_completion_of_reversal : (s : Service) → is_reversal s ≡ true → is_completion s ≡ false
is_completion_of_reversal Completion e = absurd (cc)
is_completion_of_reversal service e = refl

-- and with a reversal
pub reversal_follows : (h : List Entry) (key : RequestKey) (g : Found) (p : Prior) →
    recorded key h ≡ Some g → prior g ≡ p →
    (r : RequestMessage) (day : ℕ) (ranges : List Range) (reply : IsoMessage) →
    request_of (Requested r) ≡ Some r → is_reversal r.service ≡ true →
    original_key r.message ≡ Some key → CanBeReversed r p →
    FollowsEntry (changing p.key (followed_row (remains_of p (remaining_in r.message))))
    (entry_on day ranges (Requested r) (Replied code.Approved reply)) h
reversal_follows h key g p found is r day ranges reply came fits asks can =
    subst (λ x. FollowsEntry (changing x.key (followed_row (remains_of x remaining))) e h)
    (sym (prior_is g) ∙ is)
    (edit_follows h e g (followed_row left) (followed_kept left) own
    (λ a same.
    prior_of_reversed a g (fate_of g) remaining (same ∙ prior_is g)
    allows.reversible allows.answered
    ∙ sym (prior_aged e g _
    (fate_reversed e g (λ k is. refl) (λ k is. completions k)
    (by g ∙ (ap (same_key key) here ∙ same_key_itself key)) remaining (ap remaining_by came))))
    (λ f again other.
    prior_aged_same e f (λ k is. refl) (λ k is. completions k)
    (by f ∙ other_key f again other (same_key key (key_in f)) refl)))
  where
    e : Entry
    e = entry_on day ranges (Requested r) (Replied code.Approved reply)

    remaining : ℕ
    remaining = remaining_in r.message

    left : Remains
    left = remains_of (prior_by (fate_of g) g) remaining

    allows : AllowsReversal r (prior_by (fate_of g) g)
    allows =
        can_be_reversed r (prior_by (fate_of g) g)
        (subst (CanBeReversed r) (sym is ∙ prior_is g) can)

    here : key_in g ≡ key
    here = recorded_is key h g found

    own : recorded (key_in g) h ≡ Some g
    own = ap (λ k. recorded k h) here ∙ found

    by : (f : Found) →
        is_reversing (key_in f) (entry_on day ranges (Requested r) (Replied code.Approved reply))
        ≡ same_key key (key_in f)
    by f = (λ i. reverses (key_in f) (came i) (Replied code.Approved reply))
        ∙ (λ i. fits i && true && is_key (key_in f) (asks i))

    completions : (k : ℕ) →
        is_completing k (entry_on day ranges (Requested r) (Replied code.Approved reply)) ≡ false
    completions k = (λ i. completes k (came i) (Replied code.Approved reply))
        ∙ (λ i. is_completion_of_reversal r.service fits i && true
        && is_number k (reference_in r.message))

    other_key : (f : Found) → IsFoundAgain h f → (f ≡ g → ⊥) → (b : Bool) →
        same_key key (key_in f) ≡ b → b ≡ false
    other_key f again other true t =
        absurd (other (same_found h f g again own
        (sym (same_key_is key (key_in f) t) ∙ sym here)))
    other_key f again other false t = refl
