-- A merchant's rows of reconciliations are the reconciliations of its own history.
use Rattle.std.proofs.Common.{◌≡◌, ℕ, ◌+◌, List, [], ◌∷◌, ◌++◌, Option, Some, None, Bool, true}
use Rattle.std.proofs.Common.{false}
use Rattle.std.proofs.Common.{cond, refl, sym, ap, ◌∙◌, subst}
use Rattle.std.specs.Prelude.{option_map, is_none, ◌&&◌, ◌==◌}
use Rattle.std.specs.Prelude.{if◌then◌else◌, nat_lt}
use Rattle.std.specs.Str.{bytes_eq}
use Rattle.std.proofs.lemmas.Bool.{and_parts}
use Rattle.iso_codec.specs.Message.{content_of}
use Rattle.card_no.specs.declared.range.Range.{Range}
use Rattle.card_no.specs.Ranges.{has_ends, is_valid_range}
use Rattle.day_totals.specs.Day.{last_day}
use Rattle.day_totals.specs.Totals.{agrees_with}
use Rattle.acq_message.specs.declared.service.Service.{Service}
use Rattle.acq_message.specs.declared.service.Service.TheVariants.{Reconciliation}
use Rattle.acq_message.specs.declared.request_message.RequestMessage.{RequestMessage}
use Rattle.acq_message.specs.declared.response_code.ResponseCode.TheVariants as code
use Rattle.acq_message.specs.declared.verdict.Verdict.{Verdict}
use Rattle.acq_message.specs.Claims.{claimed_in}
use Rattle.acq_message.specs.Elements.{text_at, or_empty, key_of, essence_of}
use Rattle.acq_core.specs.declared.merchant.Merchant.{Merchant}
use Rattle.acq_core.specs.declared.terminal.Terminal.{Terminal}
use Rattle.acq_core.specs.declared.reconciliation.Reconciliation as row
use Rattle.acq_core.specs.declared.output.Output.TheVariants as output
use Rattle.acq_core.specs.declared.arrival.Arrival.{Arrival}
use Rattle.acq_core.specs.declared.arrival.Arrival.TheVariants.{Requested, Answered, CutOver}
use Rattle.acq_core.specs.declared.arrival.Arrival.TheVariants.{RangeAdded, RangeDropped, Enrolled}
use Rattle.acq_core.specs.declared.arrival.Arrival.TheVariants.{TerminalAdded}
use Rattle.acq_core.specs.declared.reply_state.ReplyState.{ReplyState}
use Rattle.acq_core.specs.declared.reply_state.ReplyState.TheVariants.{Kept, Awaited, Late}
use Rattle.acq_core.specs.Arrivals.{arrival_of, merchant_named, is_shared}
use Rattle.acq_core.specs.Known.{Known, known_for, wanted_for, reconciled_day, totals_if}
use Rattle.acq_core.specs.Decision.{Decision, Reports, Replies}
use Rattle.acq_core.specs.Decision.{Reconciles, CutsOver, DropsRange}
use Rattle.acq_core.specs.Decision.{AddsTerminal, decision, decision_of_request, repeat_of}
use Rattle.acq_core.specs.Decision.{decision_of_merchant, decision_of_key, decision_by}
use Rattle.acq_core.specs.Decision.{reconciliation_of, decision_of_new_range}
use Rattle.acq_core.specs.Decision.{decision_of_old_range, decision_of_enrolment}
use Rattle.acq_core.specs.Decision.{decision_of_terminal, decision_of_answer}
use Rattle.acq_core.specs.Outcome.{outcome_of, is_in_balance}
use Rattle.acq_core.specs.Changes.{change_of, change_for}
use Rattle.acq_core.specs.Tables.{Opening, Tables, new_tables, after_any, known_in, step_tables}
use Rattle.acq_core.specs.Tables.{with_next_reconciliation, totals_on}
use Rattle.acq_core.proofs.DecisionCases.{by_request, by_answer}
use Rattle.acq_history.specs.Entries.{Entry, is_past_merchant, request_of}
use Rattle.acq_history.specs.History.{Found, recorded, prior, enrolled, postings, day_after}
use Rattle.acq_history.specs.History.{ranges_after, facts_of, has_terminal}
use Rattle.acq_history.specs.PartyHistory.{known_by, entry_for, names}
use Rattle.acq_history.specs.Reconciliations.{reconciliation_on, reconciliation_by}
use Rattle.acq_history.specs.Reconciliations.{with_reconciliation, reconciliations}
use Rattle.acq_history.specs.Reconciliations.{reconciliations_of, ReconcilesAlone}
use Rattle.acq_soundness.proofs.Lookups.{clash, filter-push_in, filter-push_out, count-filter}
use Rattle.acq_soundness.proofs.Keys.{bytes_eq_itself}
use Rattle.acq_soundness.proofs.RecordableRequests.{recordable_some}
use Rattle.acq_history.proofs.ChangedRows.{entry_on}
use Rattle.acq_soundness.proofs.StepCases.{by_step}
use Rattle.acq_history.proofs.OwnRequests.{balance_past}
use Rattle.acq_history.proofs.TablesAgreeWithHistory.{Agrees, known_in_mine, known_in_shared}
use Rattle.acq_history.proofs.TablesAgreeWithHistory.{names_is}
use Rattle.acq_history.proofs.OtherPartysStep.{IsNaming, named_other, naming_of}
use Rattle.acq_history.proofs.WholeRuns.{KeepsAgreement, whole_run}
use Rattle.acq_history.proofs.MerchantsRuns.{keeps_agreement, new_agrees}

-- ---- one row more

-- a reconciliation of the merchant's is one more of its own
reconciliations_of_mine : (m : List ℕ) (rows : List (ℕ × row.Reconciliation))
    (p : row.Reconciliation) → p.merchant ≡ m →
    reconciliations_of m (with_next_reconciliation rows p)
    ≡ with_next_reconciliation (reconciliations_of m rows) p
reconciliations_of_mine m rows p is =
    filter-push_in (λ x. bytes_eq x.1.merchant m) rows _
    (ap (λ n. bytes_eq n m) is ∙ bytes_eq_itself m)
    ∙ ap (λ n. reconciliations_of m rows ++ (n + 1, p) ∷ [])
    (sym (count-filter (λ x. bytes_eq x.1.merchant m)
    (λ x. bytes_eq x.1.merchant p.merchant && (x.1.day == p.day))
    (λ x on. ap (λ n. bytes_eq x.1.merchant n) (sym is) ∙ (and_parts _ _ on).0) rows))

-- ---- decisions that reconcile nothing

abbrev pub is_reconciling : Decision → Bool
is_reconciling (Reconciles r day) = true
is_reconciling other = false

kept_rows : (t : Tables) (k : Known) (d : Decision) → is_reconciling d ≡ false →
    (after_any t (change_of k d)).reconciliations ≡ t.reconciliations
kept_rows t k (Reconciles r day) e = absurd (cc)
kept_rows t k other e = refl

repeats_none : (s : ReplyState) → is_reconciling (repeat_of s) ≡ false
repeats_none (Kept reply) = refl
repeats_none (Awaited draft) = refl
repeats_none Late = refl

-- only a reconciliation does
pub reconciles_only : (k : Known) (r : RequestMessage) →
    is_reconciling (decision_of_request r.service k r) ≡ true → r.service ≡ Reconciliation
reconciles_only k r =
    by_request k r (λ d. is_reconciling d ≡ true → r.service ≡ Reconciliation)
    (record {
      managed = λ is yes. absurd (cc);
      unknown = λ yes. absurd (cc);
      duplicate = λ p is yes. absurd (cc);
      repeated = λ p is yes. clash (is_reconciling (repeat_of p.reply_state)) yes
          (repeats_none p.reply_state);
      refused = λ merchant fresh given is yes. absurd (cc);
      admitted = λ merchant fresh service range in_range yes. absurd (cc);
      completed = λ merchant fresh service hold found opens yes. absurd (cc);
      reversed = λ merchant fresh service p found can yes. absurd (cc);
      reconciled = λ merchant fresh service day resolved yes. service;
    })

answer_none : (k : Known) (moment : ℕ) (v : Verdict) (o : Option Merchant) →
    is_reconciling (decision_of_answer k moment v o) ≡ false
answer_none k moment v =
    by_answer k moment v (λ d. is_reconciling d ≡ false)
    (record { not_taken = λ o. refl; taken = λ p draft found pending. refl })

if_none : (b : Bool) (c d : Decision) → is_reconciling c ≡ false → is_reconciling d ≡ false →
    is_reconciling (cond b c d) ≡ false
if_none true c d e f = e
if_none false c d e f = f

new_range_none : (range : Range) (o : Option Range) →
    is_reconciling (decision_of_new_range range o) ≡ false
new_range_none range None = refl
new_range_none range (Some other) = refl

old_range_none : (low high : ℕ) (o : Option Range) →
    is_reconciling (decision_of_old_range low high o) ≡ false
old_range_none low high None = refl
old_range_none low high (Some range) =
    if_none (has_ends low high range) (DropsRange low high) (Reports output.NoSuchRange) refl refl

enrolment_none : (merchant : Merchant) (o : Option Merchant) →
    is_reconciling (decision_of_enrolment merchant o) ≡ false
enrolment_none merchant None = refl
enrolment_none merchant (Some other) = refl

terminal_none : (terminal : Terminal) (there : Bool) (o : Option Merchant) →
    is_reconciling (decision_of_terminal terminal there o) ≡ false
terminal_none terminal there None = refl
terminal_none terminal there (Some merchant) =
    if_none there (Reports output.Done) (AddsTerminal terminal) refl refl

-- ---- an event of the merchant's own, or of what all share

abbrev is_reconciliation : Service → Bool
is_reconciliation Reconciliation = true
is_reconciliation service = false

reconciliation_is : (s : Service) → is_reconciliation s ≡ true → s ≡ Reconciliation
reconciliation_is Reconciliation e = refl
reconciliation_is s e = absurd (cc)

none_by : (s : Service) (e : Entry) (h : List Entry) (r : RequestMessage) →
    is_reconciliation s ≡ false → reconciliation_by s e h r ≡ None
none_by Reconciliation e h r is = absurd (cc)
none_by s e h r is = refl

module _ (opening : Opening) (m : List ℕ) (t : Tables) (h : List Entry)
    (same : reconciliations_of m t.reconciliations ≡ reconciliations h) where
  -- what a decision has to keep
  abbrev KeepsRows : Arrival → Known → Decision → Type 0
  KeepsRows a k d =
      reconciliations_of m (after_any t (change_of k d)).reconciliations
      ≡ reconciliations
      (entry_on (day_after opening.first_day h) (ranges_after h) a (outcome_of k d) ∷ h)

  -- ---- a reconciliation

  module _ (r : RequestMessage) (is : r.service ≡ Reconciliation) (mine : text_at r.message 42 ≡ m)
    where
      -- what it knows
      abbrev known : Known
      known =
          known_for (wanted_for (day_after opening.first_day h) Reconciliation r.message)
          (facts_of opening h)

      abbrev named_day : Option ℕ
      named_day =
          reconciled_day (day_after opening.first_day h) (content_of r.message.elements 15)

      -- what a decision has to keep, by what is recorded under the key and by the day
      abbrev Keeps : Option Found → Option ℕ → Decision → Type 0
      Keeps o day d =
          reconciliations_of m (after_any t (change_of known d)).reconciliations
          ≡ with_reconciliation (reconciliations h)
          (cond (is_past_merchant (outcome_of known d) && is_none o)
          (option_map (reconciliation_on r h) day) None)

      by_day : (day : Option ℕ) → named_day ≡ day → Keeps None day (reconciliation_of r day)
      by_day None resolved = same
      by_day (Some day) resolved =
          let balance = agrees_with (claimed_in r.message) in
          let totals : known.totals ≡ totals_on (postings h) day =
          ap (totals_if (totals_on (postings h))) resolved in
          let p : row.Reconciliation =
          record {
            merchant = text_at r.message 42;
            day = day;
            in_balance = is_in_balance known r;
          } in
          reconciliations_of_mine m t.reconciliations p mine
          ∙ ((λ i. with_next_reconciliation (same i) (record p { in_balance = balance (totals i) }))
          ∙ sym (ap (λ b. with_reconciliation (reconciliations h)
          (cond (b && true) (Some (reconciliation_on r h day)) None))
          (balance_past (is_in_balance known r))))

      by_state : (f : Found) (s : ReplyState) → Keeps (Some f) named_day (repeat_of s)
      by_state f (Kept reply) = same
      by_state f (Awaited draft) = same
      by_state f Late = same

      by_key : (merchant : Merchant) (o : Option Found) →
          Keeps o named_day
          (decision_of_key r (option_map prior o) (decision_by r.service known merchant r))
      by_key merchant None =
          subst (λ s. Keeps None named_day (decision_by s known merchant r)) (sym is)
          (by_day named_day refl)
      by_key merchant (Some f) =
          elim (bytes_eq (essence_of r.service r.message) (prior f).essence)
          as (λ b. Keeps (Some f) named_day
          (if b then repeat_of (prior f).reply_state else Replies r code.DuplicateTransmission)) [
            | true ↦ by_state f (prior f).reply_state
            | false ↦ same
          ]

      by_merchant : (o : Option Merchant) →
          Keeps (recorded (key_of Reconciliation r.message) h) named_day
          (decision_of_merchant known r o)
      by_merchant None = same
      by_merchant (Some merchant) =
          elim (has_terminal h (text_at r.message 41))
          as (λ b. Keeps (recorded (key_of Reconciliation r.message) h) named_day
          (if b then decision_of_key r known.recorded (decision_by r.service known merchant r)
          else Replies r code.InvalidMerchant)) [
            | true ↦ by_key merchant (recorded (key_of Reconciliation r.message) h)
            | false ↦ same
          ]

      reconciling :
          KeepsRows (Requested r) (known_by opening h (Requested r))
          (decision (known_by opening h (Requested r)) (Requested r))
      reconciling =
          let k : Service → Known =
          λ s. known_for (wanted_for (day_after opening.first_day h) s r.message)
          (facts_of opening h) in
          subst (λ s.
          reconciliations_of m
          (after_any t (change_of (k s) (decision_of_request s (k s) r))).reconciliations
          ≡ with_reconciliation (reconciliations h)
          (reconciliation_by s
          (entry_on (day_after opening.first_day h) (ranges_after h) (Requested r)
          (outcome_of (k s) (decision_of_request s (k s) r))) h r))
          (sym is) (by_merchant (enrolled h))

  -- ---- whatever comes

  request_kept : (r : RequestMessage) → text_at r.message 42 ≡ m →
      KeepsRows (Requested r) (known_by opening h (Requested r))
      (decision (known_by opening h (Requested r)) (Requested r))
  request_kept r mine =
      let k = known_by opening h (Requested r) in
      let d = decision k (Requested r) in
      let e = entry_on (day_after opening.first_day h) (ranges_after h) (Requested r)
      (outcome_of k d) in
      let quiet : is_reconciliation r.service ≡ false → (b : Bool) → is_reconciling d ≡ b →
      KeepsRows (Requested r) k d =
      λ other. elim [
        | true ↦ (λ yes. clash (is_reconciliation r.service)
            (ap is_reconciliation (reconciles_only k r yes)) other)
        | false ↦ (λ none.
            ap (reconciliations_of m) (kept_rows t k d none)
            ∙ (same
            ∙ sym (ap (with_reconciliation (reconciliations h)) (none_by r.service e h r other))))
      ] in
      let step : (b : Bool) → is_reconciliation r.service ≡ b → KeepsRows (Requested r) k d =
      elim [
        | true ↦ (λ fits. reconciling r (reconciliation_is r.service fits) mine)
        | false ↦ (λ other. quiet other (is_reconciling d) refl)
      ] in
      step (is_reconciliation r.service) refl

  -- what reconciles nothing
  still : (k : Known) (d : Decision) → is_reconciling d ≡ false →
      reconciliations_of m (after_any t (change_of k d)).reconciliations ≡ reconciliations h
  still k d none = ap (reconciliations_of m) (kept_rows t k d none) ∙ same

  kept : (a : Arrival) →
      ((r : RequestMessage) → a ≡ Requested r → text_at r.message 42 ≡ m) →
      KeepsRows a (known_by opening h a) (decision (known_by opening h a) a)
  kept (Requested r) mine = request_kept r (mine r refl)
  kept (Answered moment merchant n v) mine =
      let k = known_by opening h (Answered moment merchant n v) in
      still k (decision k (Answered moment merchant n v)) (answer_none k moment v k.merchant)
  kept CutOver mine =
      let k = known_by opening h CutOver in
      still k (decision k CutOver)
      (if_none (nat_lt k.today last_day) CutsOver (Reports output.LastDay) refl refl)
  kept (RangeAdded range) mine =
      let k = known_by opening h (RangeAdded range) in
      still k (decision k (RangeAdded range))
      (if_none (is_valid_range range) (decision_of_new_range range k.overlapped)
      (Reports output.BadRange) (new_range_none range k.overlapped) refl)
  kept (RangeDropped low high) mine =
      let k = known_by opening h (RangeDropped low high) in
      still k (decision k (RangeDropped low high)) (old_range_none low high k.overlapped)
  kept (Enrolled merchant) mine =
      let k = known_by opening h (Enrolled merchant) in
      still k (decision k (Enrolled merchant)) (enrolment_none merchant k.merchant)
  kept (TerminalAdded terminal) mine =
      let k = known_by opening h (TerminalAdded terminal) in
      still k (decision k (TerminalAdded terminal))
      (terminal_none terminal k.has_terminal k.merchant)
  kept other mine = same

-- ---- an event of another party

other_kept : (m : List ℕ) (t : Tables) (a : Arrival) → IsNaming a →
    names (merchant_named a) m ≡ false →
    reconciliations_of m (step_tables t a).reconciliations ≡ reconciliations_of m t.reconciliations
other_kept m t a naming other =
    by_step t a (λ d.
    reconciliations_of m (after_any t (change_of (known_in t a) d)).reconciliations
    ≡ reconciliations_of m t.reconciliations)
    (record {
      reported = λ o not. refl;
      malformed = λ r came. refl;
      replied = λ r came given hosts. refl;
      repeated = λ row member. refl;
      refused = λ r merchant g given hosts. refl;
      admitted = λ r merchant g range c. refl;
      completed = λ r merchant g hold c. refl;
      reversed = λ r merchant g row c. refl;
      reconciled = λ r merchant g day c.
          filter-push_out (λ x. bytes_eq x.1.merchant m) t.reconciliations _
          (ap (λ x. bytes_eq (or_empty (merchant_named x)) m) (sym g.came)
          ∙ named_other m (merchant_named a)
          (naming r (ap request_of g.came ∙ recordable_some r.service r g.recordable)) other);
      answered = λ moment v row c. refl;
      cut_over = λ came before. refl;
      range_added = λ range came valid free. refl;
      range_dropped = λ low high came. refl;
      enrolled = λ merchant came new. refl;
      terminal_added = λ terminal came new. refl;
    })

-- ---- whole runs

-- tables and history agree, also in the reconciliations
abbrev AgreesInAll : Opening → List ℕ → Tables → List Entry → Type 0
AgreesInAll opening m t h =
    Agrees opening m t h × (reconciliations_of m t.reconciliations ≡ reconciliations h)

stepped : (opening : Opening) (m : List ℕ) (t : Tables) (h : List Entry) (a : Arrival) →
    reconciliations_of m t.reconciliations ≡ reconciliations h →
    ((r : RequestMessage) → a ≡ Requested r → text_at r.message 42 ≡ m) →
    known_in t a ≡ known_by opening h a →
    reconciliations_of m (step_tables t a).reconciliations
    ≡ reconciliations (entry_for opening h a ∷ h)
stepped opening m t h a same mine known =
    ap (λ k. reconciliations_of m (after_any t (change_for k a)).reconciliations) known
    ∙ kept opening m t h same a mine

keeps_all : (opening : Opening) (m : List ℕ) →
    KeepsAgreement opening (Some m) (AgreesInAll opening m)
keeps_all opening m =
    let keeps = keeps_agreement opening m in
    record {
      own_event = λ t h e g mine.
          let a = arrival_of e in
          let named = names_is (merchant_named a) m mine in
          let s = keeps.own_event t h e g.0 mine in (
            s.0,
            (
              s.1,
              stepped opening m t h a g.1
                  (λ r came. ap or_empty (ap merchant_named (sym came) ∙ named))
                  (known_in_mine g.0 a named),
            ),
          );
      shared_event = λ t h e g shared.
          let a = arrival_of e in (
            keeps.shared_event t h e g.0 shared,
            stepped opening m t h a g.1
                (λ r came. clash (is_shared a) shared (ap is_shared came))
                (known_in_shared g.0 a shared),
          );
      other_event = λ t h e g other alone. (
        keeps.other_event t h e g.0 other alone,
        other_kept m t (arrival_of e) (naming_of e) other ∙ g.1,
      );
    }

pub reconciles_alone : (m : List ℕ) → ReconcilesAlone m
reconciles_alone m opening es =
    (whole_run opening (Some m) (AgreesInAll opening m) (keeps_all opening m)
    (new_tables opening) [] (new_agrees opening m, refl) es).1.1
