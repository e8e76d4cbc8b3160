-- Whatever comes of a merchant's own, or of what all share: tables and history say the same after
-- it.
use Rattle.std.proofs.Common.{◌≡◌, ℕ, List, [], ◌∷◌, Option, Some, None, Bool, true, false, cond}
use Rattle.std.proofs.Common.{refl, sym, ap, ◌∙◌, subst}
use Rattle.std.specs.Prelude.{find, option_and_then, nat_lt, ◌&&◌, ◌||◌, is_some, ◌==◌}
use Rattle.std.specs.Prelude.{if◌then◌else◌}
use Rattle.std.specs.Option.{option_or}
use Rattle.std.specs.Str.{bytes_eq}
use Rattle.std.proofs.lemmas.List.Folds.{find-append}
use Rattle.std.proofs.Math.Bool.{and-false}
use Rattle.iso_codec.specs.Message.{IsoMessage}
use Rattle.card_no.specs.declared.range.Range.{Range}
use Rattle.card_no.specs.Ranges.{with_range, without_range, has_ends, is_valid_range}
use Rattle.acq_message.specs.declared.service.Service.{Service}
use Rattle.acq_message.specs.declared.service.Service.TheVariants.{Completion, NetworkManagement}
use Rattle.acq_core.specs.declared.merchant.Merchant.{Merchant}
use Rattle.acq_core.specs.declared.terminal.Terminal.{Terminal}
use Rattle.acq_core.specs.declared.request.Request.{Request}
use Rattle.acq_core.specs.declared.output.Output.TheVariants as output
use Rattle.acq_message.specs.declared.verdict.Verdict.{Verdict}
use Rattle.acq_core.specs.declared.arrival.Arrival.{Arrival}
use Rattle.acq_message.specs.declared.request_message.RequestMessage.{RequestMessage}
use Rattle.acq_core.specs.Arrivals.{merchant_named, is_shared}
use Rattle.acq_core.specs.declared.arrival.Arrival.TheVariants.{Unserved, Malformed, Requested}
use Rattle.acq_core.specs.declared.arrival.Arrival.TheVariants.{Answered, CutOver, RangeAdded}
use Rattle.acq_core.specs.declared.arrival.Arrival.TheVariants.{RangeDropped, Enrolled}
use Rattle.acq_core.specs.declared.arrival.Arrival.TheVariants.{TerminalAdded}
use Rattle.acq_core.specs.Known.{Known, Prior}
use Rattle.acq_core.specs.declared.reply_state.ReplyState.TheVariants.{Awaited}
use Rattle.acq_core.specs.Decision.{Decision, Reports, Replies, network_response, repeat_of}
use Rattle.acq_core.specs.Decision.{Completes, Answers, CutsOver, DropsRange, decision}
use Rattle.acq_core.specs.Decision.{decision_of_new_range, decision_of_old_range}
use Rattle.acq_core.specs.Decision.{decision_of_enrolment, decision_of_terminal}
use Rattle.day_totals.specs.Day.{last_day}
use Rattle.acq_core.specs.Outcome.{Outcome, Replied, Performed, Reported, outcome_of, output_of}
use Rattle.acq_core.specs.Outcome.{outcome}
use Rattle.acq_message.specs.Reply.{answered_reply, verdict_code}
use Rattle.acq_message.specs.declared.response_code.ResponseCode.TheVariants as code
use Rattle.acq_core.specs.Changes.{answered_status, answered_hold_end, change_of, change_for}
use Rattle.acq_core.specs.Changes.{answer_posting}
use Rattle.acq_core.specs.Tables.{Opening, Tables, prior_of, requests_of, referred_in}
use Rattle.acq_core.specs.Tables.{with_next_posting, after_any, known_in, step_output, step_tables}
use Rattle.acq_core.specs.Tables.{answered_row}
use Rattle.acq_message.specs.Numbers.{is_number}
use Rattle.acq_history.specs.Entries.{Entry, request_of, is_performed, is_answer, accepts}
use Rattle.acq_history.specs.Entries.{is_acceptable}
use Rattle.acq_history.specs.History.{referred, day_after, ranges_after, enrolled, admits, prior}
use Rattle.acq_history.specs.History.{postings, posting_of}
use Rattle.acq_history.specs.PartyHistory.{known_by, entry_for}
use Rattle.acq_history.specs.Isolation.{recording_first}
use Rattle.acq_soundness.proofs.Lookups.{some_is, map_some, then_map, any-push, found_passes}
use Rattle.acq_soundness.proofs.Lookups.{none_some}
use Rattle.acq_soundness.proofs.Keys.{bytes_eq_is, bytes_eq_itself}
use Rattle.acq_core.proofs.DecisionCases.{by_request, by_answer}
use Rattle.acq_core.proofs.Counts.{or_none}
use Rattle.acq_soundness.proofs.RecordableRequests.{recordable_some, is_admissible_true}
use Rattle.acq_soundness.proofs.RecordableRequests.{is_reversal_true}
use Rattle.acq_history.proofs.UnrecordedRequests.{IsQuiet, refusal_is, quiet_managed, quiet_unknown}
use Rattle.acq_history.proofs.UnrecordedRequests.{quiet_duplicate, quiet_repeated, change_of_repeat}
use Rattle.acq_history.proofs.RowsAgreeWithHistory.{Rows, without_newest_edited}
use Rattle.acq_history.proofs.RowsAgreeWithHistory.{without_newest_still, rows_still}
use Rattle.acq_history.proofs.RowsAgreeWithHistory.{referred_in_is}
use Rattle.acq_history.proofs.ChangedRows.{answer_follows, entry_on}
use Rattle.acq_history.proofs.TablesAgreeWithHistory.{Agrees, common_still, known_in_mine}
use Rattle.acq_history.proofs.TablesAgreeWithHistory.{known_in_shared, IsOf, postings_of_mine}
use Rattle.acq_history.proofs.TablesAgreeWithHistory.{answer_posting_is_of}
use Rattle.acq_history.proofs.OwnRequests.{Keeps, quiet_step, refused_step, reconciled_step}
use Rattle.acq_history.proofs.OwnRequests.{admitted_step, completed_step, reversed_step}
use Rattle.acq_soundness.proofs.RowsWithChanges.{answered_kept}
use Rattle.acq_history.proofs.Statuses.{is_some_open}

-- what is found in a merchant's rows has its key
pub referred_merchant : (m : List ℕ) (rows : List Request) (n : ℕ) (p : Prior) →
    referred_in (requests_of m rows) n ≡ Some p → p.key.merchant ≡ m
referred_merchant m rows n p there =
    let found = map_some prior_of (find (λ row. is_number n row.reference) (requests_of m rows)) p
    there in
    ap (λ x. x.key.merchant) (sym found.2)
    ∙ bytes_eq_is found.0.key.merchant m
    (found_passes (λ row. bytes_eq row.key.merchant m) (λ row. is_number n row.reference) rows
    found.0 found.1)

-- the step of the tables is the step of the history
abbrev pub IsStep : Opening → List ℕ → Tables → List Entry → Arrival → Type 0
IsStep opening m t h a =
    (step_output t a ≡ output_of (merchant_named a) (entry_for opening h a).outcome)
    × Agrees opening m (step_tables t a) (entry_for opening h a ∷ h)

module _ {opening : Opening} {m : List ℕ} {t : Tables} {h : List Entry}
    (g : Agrees opening m t h) where
  -- what the history lets an event know
  abbrev known : Arrival → Known
  known a = known_by opening h a

  -- the entry of an outcome
  abbrev at : Arrival → Outcome → Entry
  at = entry_on (day_after opening.first_day h) (ranges_after h)

  -- ---- requests

  -- only a completion completes
  completes_by : (moment : ℕ) (s : Service) (message : IsoMessage) →
      let r : RequestMessage = record { moment = moment; service = s; message = message } in
      merchant_named (Requested r) ≡ Some m → (hold : Prior) →
      (known (Requested r)).recorded ≡ None → s ≡ Completion →
      (known (Requested r)).referred ≡ Some hold →
      is_some hold.hold_end ≡ true → Keeps g (Requested r) (Completes r hold)
  completes_by moment Completion message named hold new fits there ends =
      completed_step g moment message named hold new there ends
  completes_by moment service message named hold new fits there ends = absurd (cc)

  -- a request that changes nothing
  unchanged : (r : RequestMessage) (d : Decision) → change_of (known (Requested r)) d ≡ None →
      IsQuiet (known (Requested r)) r (outcome_of (known (Requested r)) d) → Keeps g (Requested r) d
  unchanged r d none quiet =
      subst (λ c. Agrees opening m (after_any t c)
      (at (Requested r) (outcome_of (known (Requested r)) d) ∷ h))
      (sym none)
      (quiet_step g r (outcome_of (known (Requested r)) d) quiet)

  -- each decision on a request keeps the agreement
  requested : (r : RequestMessage) → merchant_named (Requested r) ≡ Some m →
      Keeps g (Requested r) (decision (known (Requested r)) (Requested r))
  requested r named =
      let k = known (Requested r) in
      let came : (r.service ≡ NetworkManagement → ⊥) → request_of (Requested r) ≡ Some r =
      recordable_some r.service r in
      by_request k r (Keeps g (Requested r))
      (record {
        managed = λ is. unchanged r (Replies r (network_response r.message)) refl
            (quiet_managed k r is);
        unknown = unchanged r (Replies r code.InvalidMerchant) refl (quiet_unknown k r);
        duplicate = λ p is. unchanged r (Replies r code.DuplicateTransmission) refl
            (quiet_duplicate k r p is);
        repeated = λ p is.
            unchanged r (repeat_of p.reply_state) (change_of_repeat k p.reply_state)
            (quiet_repeated k r p is p.reply_state);
        refused = λ merchant fresh given is.
            refused_step g r named given (came fresh.recordable) fresh.new
            (refusal_is given is);
        admitted = λ merchant fresh service range in_range.
            admitted_step g r named range merchant (came fresh.recordable) fresh.new
            (is_admissible_true r.service service) in_range fresh.enrolled;
        completed = λ merchant fresh service hold found opens.
            completes_by r.moment r.service r.message named hold fresh.new service found
            (is_some_open r.moment hold.hold_end opens);
        reversed = λ merchant fresh service p found can.
            reversed_step g r named p (came fresh.recordable) fresh.new
            (is_reversal_true r.service service) found can;
        reconciled = λ merchant fresh service day resolved.
            reconciled_step g r named day (came fresh.recordable) fresh.new service;
      })

  -- ---- what records nothing

  -- the rows, where the entry is neither a request nor an answer that is taken
  still_rows : (a : Arrival) (o : Outcome) → request_of a ≡ None →
      ((n : ℕ) → is_answer n (at a o) ≡ false) → Rows m t.requests (at a o ∷ h)
  still_rows a o none answers =
      rows_still (ap (λ rq. accepts is_acceptable rq o) none)
      (ap (λ rq. admits rq (at a o) h) none) (ap (recording_first (at a o) h) none)
      (without_newest_still (ap (λ rq. accepts is_acceptable rq o) none)
      answers g.rows)

  -- such an entry that does nothing
  still_step : (a : Arrival) (o : Outcome) → request_of a ≡ None →
      ((n : ℕ) → is_answer n (at a o) ≡ false) →
      is_performed o ≡ false → postings h ≡ postings (at a o ∷ h) → Agrees opening m t (at a o ∷ h)
  still_step a o none answers performed posted =
      record {
        common = common_still a o performed g.common;
        rows = still_rows a o none answers;
        posted = g.posted ∙ posted;
      }

  -- ---- answers

  -- an answer that is taken
  answered_step : (moment : ℕ) (merchant : List ℕ) (n : ℕ) (v : Verdict) (p : Prior)
      (draft : IsoMessage) →
      (known (Answered moment merchant n v)).referred ≡ Some p → p.reply_state ≡ Awaited draft →
      Keeps g (Answered moment merchant n v) (Answers moment v p draft)
  answered_step moment merchant n v p draft there pending =
      let reply = answered_reply draft v in
      let until = answered_hold_end p.key.service moment v p.hold_days in
      let o = Replied (verdict_code v) reply in
      let a = Answered moment merchant n v in
      let e = at a o in
      let found = map_some prior (referred n h) p there in
      let f = found.0 in
      let mine : p.key.merchant ≡ m =
      referred_merchant m t.requests n p (referred_in_is m t.requests h g.rows n ∙ there) in
      let posting : posting_of e h ≡ answer_posting v p =
      then_map prior (answer_posting v) (referred n h)
      ∙ ap (option_and_then (answer_posting v)) there in
      record {
        common = common_still a o refl
            g.common;
        rows =
            rows_still refl refl refl
            (without_newest_edited p.key
            (answered_row (answered_status v) reply until)
            (answered_kept (answered_status v) reply until)
            (answer_follows h n f p found.1 found.2 moment (day_after opening.first_day h) merchant
            v
            (ranges_after h) reply draft pending) g.rows);
        posted =
            postings_of_mine m t.postings (answer_posting v p)
            (subst (λ k. IsOf k (answer_posting v p)) mine (answer_posting_is_of v p))
            ∙ ((λ i. with_next_posting (g.posted i) (answer_posting v p))
            ∙ sym (ap (with_next_posting (postings h)) posting));
      }

  -- each decision on an answer keeps the agreement
  answered : (moment : ℕ) (merchant : List ℕ) (n : ℕ) (v : Verdict) →
      Keeps g (Answered moment merchant n v)
      (decision (known (Answered moment merchant n v)) (Answered moment merchant n v))
  answered moment merchant n v =
      let a = Answered moment merchant n v in
      by_answer (known a) moment v (Keeps g a)
      (record {
        not_taken = λ o. still_step a (Reported o) refl (λ k. and-false (n == k)) refl refl;
        taken = λ p draft there pending. answered_step moment merchant n v p draft there pending;
      })
      (known a).merchant

  -- ---- enrolments

  -- the merchant's own enrolment
  enrolment : (merchant : Merchant) → merchant.id ≡ m → (o : Option Merchant) →
      Keeps g (Enrolled merchant) (decision_of_enrolment merchant o)
  enrolment merchant mine (Some other) =
      still_step (Enrolled merchant) (Reported output.AlreadyEnrolled) refl (λ n. refl) refl refl
  enrolment merchant mine None =
      record {
        common = record {
          bounded = g.common.bounded;
          day = g.common.day;
          ranges = g.common.ranges;
          merchant =
              find-append (λ row. bytes_eq row.id m) t.merchants (merchant ∷ [])
              ∙ (λ i. option_or (g.common.merchant i)
              (cond ((ap (λ x. bytes_eq x m) mine ∙ bytes_eq_itself m) i) (Some merchant) None));
          terminal = g.common.terminal;
        };
        rows = still_rows (Enrolled merchant) Performed refl (λ n. refl);
        posted = g.posted;
      }

  -- its own terminal
  terminal_added : (terminal : Terminal) → terminal.merchant ≡ m →
      (there : Bool) (o : Option Merchant) →
      Keeps g (TerminalAdded terminal) (decision_of_terminal terminal there o)
  terminal_added terminal mine there None =
      still_step (TerminalAdded terminal) (Reported output.NoSuchMerchant) refl
      (λ n. refl) refl refl
  terminal_added terminal mine true (Some merchant) =
      still_step (TerminalAdded terminal) (Reported output.Done) refl (λ n. refl) refl refl
  terminal_added terminal mine false (Some merchant) =
      record {
        common = record {
          bounded = g.common.bounded;
          day = g.common.day;
          ranges = g.common.ranges;
          merchant = g.common.merchant ∙ sym (or_none (enrolled h));
          terminal = λ id.
              any-push (λ row. bytes_eq row.merchant m && bytes_eq row.id id) t.terminals terminal
              ∙ (λ i. ((ap (λ x. bytes_eq x m) mine ∙ bytes_eq_itself m) i
              && bytes_eq terminal.id id)
              || g.common.terminal id i);
        };
        rows = still_rows (TerminalAdded terminal) Performed refl (λ n. refl);
        posted = g.posted;
      }

  -- ---- what all share

  cut_over : Keeps g CutOver (decision (known CutOver) CutOver)
  cut_over =
      elim (nat_lt (day_after opening.first_day h) last_day) as (λ b.
      Keeps g CutOver (if b then CutsOver else Reports output.LastDay)) [
        | true ↦ record {
          common = record {
            bounded = g.common.bounded;
            day = refl;
            ranges = g.common.ranges;
            merchant = g.common.merchant ∙ sym (or_none (enrolled h));
            terminal = g.common.terminal;
          };
          rows = still_rows CutOver Performed refl (λ n. refl);
          posted = g.posted;
        }
        | false ↦ still_step CutOver (Reported output.LastDay) refl (λ n. refl) refl refl
      ]

  new_range : (range : Range) (o : Option Range) →
      Keeps g (RangeAdded range) (decision_of_new_range range o)
  new_range range (Some other) = still_step (RangeAdded range) (Reported (output.Overlap other))
      refl (λ n.
      refl) refl refl
  new_range range None =
      record {
        common = record {
          bounded = g.common.bounded;
          day = g.common.day;
          ranges = ap (λ rs. with_range rs range) g.common.ranges;
          merchant = g.common.merchant ∙ sym (or_none (enrolled h));
          terminal = g.common.terminal;
        };
        rows = still_rows (RangeAdded range) Performed refl (λ n. refl);
        posted = g.posted;
      }

  range_added : (range : Range) → Keeps g (RangeAdded range)
      (decision (known (RangeAdded range)) (RangeAdded range))
  range_added range =
      elim (is_valid_range range) as (λ b.
      Keeps g (RangeAdded range)
      (if b then decision_of_new_range range (known (RangeAdded range)).overlapped else Reports
      output.BadRange)) [
        | true ↦ new_range range (known (RangeAdded range)).overlapped
        | false ↦ still_step (RangeAdded range) (Reported output.BadRange) refl
            (λ n. refl) refl refl
      ]

  old_range : (low high : ℕ) (o : Option Range) →
      Keeps g (RangeDropped low high) (decision_of_old_range low high o)
  old_range low high None = still_step (RangeDropped low high) (Reported output.NoSuchRange) refl
      (λ n. refl) refl refl
  old_range low high (Some range) =
      elim (has_ends low high range) as (λ b.
      Keeps g (RangeDropped low high)
      (if b then DropsRange low high else Reports output.NoSuchRange)) [
        | true ↦ record {
          common = record {
            bounded = g.common.bounded;
            day = g.common.day;
            ranges = ap (λ rs. without_range rs low high) g.common.ranges;
            merchant = g.common.merchant ∙ sym (or_none (enrolled h));
            terminal = g.common.terminal;
          };
          rows = still_rows (RangeDropped low high) Performed refl (λ n. refl);
          posted = g.posted;
        }
        | false ↦ still_step (RangeDropped low high) (Reported output.NoSuchRange) refl
            (λ n. refl) refl refl
      ]

  -- ---- whatever comes

  -- what is decided on what came keeps the agreement
  abbrev KeepsAt : Arrival → Type 0
  KeepsAt a = Keeps g a (decision (known a) a)

  -- whatever names the merchant
  keeps_mine : (a : Arrival) → merchant_named a ≡ Some m → KeepsAt a
  keeps_mine (Unserved message) named =
      still_step (Unserved message) (Reported (output.UnservedType message.kind)) refl
      (λ n. refl) refl refl
  keeps_mine (Malformed r) named =
      still_step (Malformed r)
      (outcome_of (known (Malformed r)) (decision (known (Malformed r)) (Malformed r))) refl
      (λ n. refl) refl refl
  keeps_mine (Requested r) named = requested r named
  keeps_mine (Answered moment merchant n v) named = answered moment merchant n v
  keeps_mine (Enrolled merchant) named =
      enrolment merchant (some_is merchant.id m named) (known (Enrolled merchant)).merchant
  keeps_mine (TerminalAdded terminal) named =
      terminal_added terminal (some_is terminal.merchant m named)
      (known (TerminalAdded terminal)).has_terminal
      (known (TerminalAdded terminal)).merchant
  keeps_mine other named = none_some m named

  -- whatever is shared
  keeps_shared : (a : Arrival) → is_shared a ≡ true → KeepsAt a
  keeps_shared CutOver shared = cut_over
  keeps_shared (RangeAdded range) shared = range_added range
  keeps_shared (RangeDropped low high) shared =
      old_range low high (known (RangeDropped low high)).overlapped
  keeps_shared other shared = absurd (cc)

  stepped : (a : Arrival) → known_in t a ≡ known a → KeepsAt a → IsStep opening m t h a
  stepped a same keeps = (
    ap (λ k. output_of (merchant_named a) (outcome k a)) same,
    subst (λ k. Agrees opening m (after_any t (change_for k a)) (entry_for opening h a ∷ h))
        (sym same) keeps,
  )

  pub step_mine : (a : Arrival) → merchant_named a ≡ Some m → IsStep opening m t h a
  step_mine a named = stepped a (known_in_mine g a named) (keeps_mine a named)

  pub step_shared : (a : Arrival) → is_shared a ≡ true → IsStep opening m t h a
  step_shared a shared = stepped a (known_in_shared g a shared)
      (keeps_shared a shared)
