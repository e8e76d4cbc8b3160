-- A run by six digits, widened, is a run by eight.
use Rattle.std.proofs.Common.{◌≡◌, ℕ, ◌+◌, ◌*◌, List, [], ◌∷◌, Option, Some, None, Bool, true, false}
use Rattle.std.proofs.Common.{◌⊎◌, inl, inr, option_map, refl, sym, ap, ap₂, ◌∙◌, subst}
use Rattle.std.specs.Prelude.{if◌then◌else◌, ◌&&◌, not}
use Rattle.std.specs.List.{list_all}
use Rattle.std.proofs.lemmas.Bool.{and_parts}
use Rattle.std.proofs.lemmas.List.Elements.{All-nil, All-cons, All-head, All-tail}
use Rattle.card_no.specs.Prefix.{six_digits, eight_digits}
use Rattle.card_no.specs.declared.range.Range.{Range}
use Rattle.card_no.specs.Ranges.{is_valid_range_under, has_ends, overlapped_by, between, are_apart}
use Rattle.card_no.specs.Widening.{widened, widened_ranges}
use Rattle.acq_core.specs.declared.event.Event.{Event}
use Rattle.acq_core.specs.declared.event.Event.TheVariants as event
use Rattle.acq_core.specs.declared.arrival.Arrival.TheVariants.{RangeAdded, RangeDropped, Answered}
use Rattle.acq_core.specs.declared.output.Output.{Output}
use Rattle.acq_core.specs.declared.output.Output.TheVariants as output
use Rattle.acq_core.specs.Arrivals.{arrival_of, merchant_named}
use Rattle.acq_core.specs.Known.{Known}
use Rattle.acq_core.specs.Decision.{Decision, Reports, AddsRange, DropsRange, decision_under}
use Rattle.acq_core.specs.Decision.{decision_of_new_range, decision_of_old_range}
use Rattle.acq_core.specs.Outcome.{outcome_of, output_of}
use Rattle.acq_core.specs.Changes.{change_of}
use Rattle.acq_core.specs.Events.{IsEvent, AreEvents}
use Rattle.acq_core.specs.Tables.{Tables, known_in_under, after_any, new_tables}
use Rattle.acq_core.specs.Tables.{step_output_under, step_tables_under, outputs_under}
use Rattle.acq_core.specs.Tables.{tables_after_under}
use Rattle.acq_core.specs.Pasts.{IsBookUnder}
use Rattle.acq_core.specs.Widening.{widened_tables}
use Rattle.acq_widening.specs.Widening.{widened_event, is_of_a_range, is_done, is_refused}
use Rattle.acq_widening.specs.Widening.{widened_events, said_to_them, WidensRuns, WidensPasts}
use Rattle.acq_widening.specs.Widening.{SixDigitRanges}
use Rattle.acq_soundness.specs.Ranges.{HasRangesApart}
use Rattle.acq_widening.proofs.RangeListsWidened.{valid_widened, ends_widened, overlapped_widened}
use Rattle.acq_widening.proofs.WidenedDecisions.{widened_known, widened_decision}
use Rattle.acq_widening.proofs.WidenedSteps.{IsWidened, same_step, cut_over_widened, frame_widened}
use Rattle.acq_widening.proofs.WidenedSteps.{answered_widened, enrolled_widened}
use Rattle.acq_widening.proofs.WidenedSteps.{terminal_added_widened}
use Rattle.acq_soundness.proofs.RangesStayApart.{ranges_stay_apart}

-- ---- one event

-- an event is about a range and is refused, which changes nothing, or it is widened
abbrev StepOf : Tables → Event → Type 0
StepOf t e =
    let a = arrival_of e in
    let said = step_output_under six_digits t a in
    ((is_refused e said ≡ true) × (step_tables_under six_digits t a ≡ t))
    ⊎ ((is_refused e said ≡ false) × IsWidened t a (arrival_of (widened_event e)))

refused : (t : Tables) (e : Event) (o : Output) → is_of_a_range e ≡ true → is_done o ≡ false →
    decision_under six_digits (known_in_under six_digits t (arrival_of e)) (arrival_of e)
    ≡ Reports o → StepOf t e
refused t e o ranged undone decided =
    let a = arrival_of e in
    let k = known_in_under six_digits t a in
    inl (
      ap (λ d. is_refused e (output_of (merchant_named a) (outcome_of k d))) decided
          ∙ ap₂ (λ x y. x && not y) ranged undone,
      ap (λ d. after_any t (change_of k d)) decided,
    )

-- ---- an event about a range

module _ (t : Tables) (range : Range) where
  added : is_valid_range_under six_digits range ≡ true →
      overlapped_by (between range.low range.high) t.ranges ≡ None →
      StepOf t (event.AddRange range)
  added valid free =
      let a = RangeAdded range in
      let k = known_in_under six_digits t a in
      let decided : decision_under six_digits k a ≡ AddsRange range =
      ap (λ b. if b then decision_of_new_range range k.overlapped else Reports output.BadRange)
      valid ∙ ap (decision_of_new_range range) free in
      inr (
        ap (λ d. is_refused (event.AddRange range) (output_of None (outcome_of k d))) decided,
        same_step t a (RangeAdded (widened range)) refl
            (ap (λ o. record k { overlapped = o })
            (overlapped_widened range.low range.high t.ranges))
            (ap (λ b. if b
            then decision_of_new_range (widened range) (option_map widened k.overlapped)
            else Reports output.BadRange) (valid_widened range ∙ valid)
            ∙ ap (λ o. decision_of_new_range (widened range) (option_map widened o)) free
            ∙ sym (ap widened_decision decided)),
      )

  adds : (b : Bool) → is_valid_range_under six_digits range ≡ b → (o : Option Range) →
      overlapped_by (between range.low range.high) t.ranges ≡ o → StepOf t (event.AddRange range)
  adds false invalid o found =
      let k = known_in_under six_digits t (RangeAdded range) in
      refused t (event.AddRange range) output.BadRange refl refl
      (ap (λ b. if b then decision_of_new_range range k.overlapped else Reports output.BadRange)
      invalid)
  adds true valid (Some other) found =
      let k = known_in_under six_digits t (RangeAdded range) in
      refused t (event.AddRange range) (output.Overlap other) refl refl
      (ap (λ b. if b then decision_of_new_range range k.overlapped else Reports output.BadRange)
      valid ∙ ap (decision_of_new_range range) found)
  adds true valid None free = added valid free

module _ (t : Tables) (low high : ℕ) where
  dropped : (range : Range) → overlapped_by (between low high) t.ranges ≡ Some range →
      has_ends low high range ≡ true → StepOf t (event.DropRange low high)
  dropped range found is =
      let a = RangeDropped low high in
      let k = known_in_under six_digits t a in
      let decided : decision_under six_digits k a ≡ DropsRange low high =
      ap (decision_of_old_range low high) found
      ∙ ap (λ b. if b then DropsRange low high else Reports output.NoSuchRange) is in
      inr (
        ap (λ d. is_refused (event.DropRange low high) (output_of None (outcome_of k d))) decided,
        same_step t a (RangeDropped (low * 100) (high * 100 + 99)) refl
            (ap (λ o. record k { overlapped = o }) (overlapped_widened low high t.ranges))
            (ap (λ o. decision_of_old_range (low * 100) (high * 100 + 99) (option_map widened o))
            found
            ∙ ap (λ b. if b then DropsRange (low * 100) (high * 100 + 99)
            else Reports output.NoSuchRange) (ends_widened low high range ∙ is)
            ∙ sym (ap widened_decision decided)),
      )

  drops : (o : Option Range) → overlapped_by (between low high) t.ranges ≡ o →
      StepOf t (event.DropRange low high)
  drops None found =
      refused t (event.DropRange low high) output.NoSuchRange refl refl
      (ap (decision_of_old_range low high) found)
  drops (Some range) found =
      let step : (b : Bool) → has_ends low high range ≡ b → StepOf t (event.DropRange low high) =
      elim [
        | true ↦ (λ is. dropped range found is)
        | false ↦ (λ is. refused t (event.DropRange low high) output.NoSuchRange refl refl
            (ap (decision_of_old_range low high) found
            ∙ ap (λ b. if b then DropsRange low high else Reports output.NoSuchRange) is))
      ] in
      step (has_ends low high range) refl

-- any event
step_of : (t : Tables) (e : Event) → StepOf t e
step_of t (event.Frame moment text) = inr (refl, frame_widened t moment text)
step_of t (event.Answer moment merchant reference verdict) =
    inr (refl, answered_widened t moment merchant reference verdict)
step_of t (event.Cutover moment) = inr (refl, cut_over_widened t)
step_of t (event.AddRange range) = adds t range (is_valid_range_under six_digits range) refl
    (overlapped_by (between range.low range.high) t.ranges) refl
step_of t (event.DropRange low high) =
    drops t low high (overlapped_by (between low high) t.ranges) refl
step_of t (event.Enrol merchant currency first) = inr (refl, enrolled_widened t _)
step_of t (event.AddTerminal merchant terminal) = inr (refl, terminal_added_widened t _)

-- ---- runs

-- the tables and the outputs by eight digits are those by six
abbrev IsRunWidened : Tables → List Event → Type 0
IsRunWidened t es =
    let said = outputs_under six_digits t es in
    (tables_after_under eight_digits (widened_tables t) (widened_events es said)
    ≡ widened_tables (tables_after_under six_digits t es))
    × (outputs_under eight_digits (widened_tables t) (widened_events es said)
    ≡ said_to_them es said)

-- one event more at the beginning
run_of : (t : Tables) (e : Event) (es : List Event) → StepOf t e →
    IsRunWidened (step_tables_under six_digits t (arrival_of e)) es → IsRunWidened t (e ∷ es)
run_of t e es (inl is) run =
    let next = step_tables_under six_digits t (arrival_of e) in
    let o = step_output_under six_digits t (arrival_of e) in
    let said = outputs_under six_digits next es in
    let later = widened_events es said in
    let others = said_to_them es said in
    let w = widened_tables t in (
      ap (λ b. tables_after_under eight_digits w (if b then later else widened_event e ∷ later))
          is.0
          ∙ ap (λ s. tables_after_under eight_digits (widened_tables s) later) (sym is.1) ∙ run.0,
      ap (λ b. outputs_under eight_digits w (if b then later else widened_event e ∷ later)) is.0
          ∙ ap (λ s. outputs_under eight_digits (widened_tables s) later) (sym is.1) ∙ run.1
          ∙ sym (ap (λ b. if b then others else o ∷ others) is.0),
    )
run_of t e es (inr is) run =
    let next = step_tables_under six_digits t (arrival_of e) in
    let o = step_output_under six_digits t (arrival_of e) in
    let said = outputs_under six_digits next es in
    let later = widened_events es said in
    let others = said_to_them es said in
    let w = widened_tables t in (
      ap (λ b. tables_after_under eight_digits w (if b then later else widened_event e ∷ later))
          is.0
          ∙ ap (λ s. tables_after_under eight_digits s later) is.1.tables ∙ run.0,
      ap (λ b. outputs_under eight_digits w (if b then later else widened_event e ∷ later)) is.0
          ∙ ap₂ (λ a s. a ∷ outputs_under eight_digits s later) is.1.said is.1.tables
          ∙ ap (λ os. o ∷ os) run.1
          ∙ sym (ap (λ b. if b then others else o ∷ others) is.0),
    )

pub runs_widened : WidensRuns
runs_widened t [] = (refl, refl)
runs_widened t (e ∷ es) =
    run_of t e es (step_of t e)
    (runs_widened (step_tables_under six_digits t (arrival_of e)) es)

-- ---- pasts

event_widened : (e : Event) → IsEvent e → IsEvent (widened_event e)
event_widened (event.Frame moment text) is = is
event_widened (event.Answer moment merchant reference verdict) is = is
event_widened (event.Cutover moment) is = is
event_widened (event.AddRange range) is = tt
event_widened (event.DropRange low high) is = tt
event_widened (event.Enrol merchant currency first) is = is
event_widened (event.AddTerminal merchant terminal) is = is

still_events : (es : List Event) (said : List Output) → AreEvents es →
    AreEvents (widened_events es said)
still_events [] said are = All-nil IsEvent
still_events (e ∷ es) [] are = All-nil IsEvent
still_events (e ∷ es) (o ∷ said) are =
    elim (is_refused e o)
    as (λ b. AreEvents (if b then widened_events es said
    else widened_event e ∷ widened_events es said)) [
      | true ↦ still_events es said (All-tail IsEvent e es are)
      | false ↦ All-cons IsEvent (widened_event e) (widened_events es said)
          (event_widened e (All-head IsEvent e es are))
          (still_events es said (All-tail IsEvent e es are))
    ]

pub pasts_widened : WidensPasts
pasts_widened t past =
    let new = new_tables past.0 in (
      past.0,
      record {
        opens = past.1.opens;
        events = widened_events past.1.events (outputs_under six_digits new past.1.events);
        are_events =
            still_events past.1.events (outputs_under six_digits new past.1.events)
            past.1.are_events;
        after = ap widened_tables past.1.after ∙ sym (runs_widened new past.1.events).0;
      },
    )

-- ---- the ranges of a past by six digits

all_valid : (rs : List Range) →
    list_all (is_valid_range_under eight_digits) (widened_ranges rs)
    ≡ list_all (is_valid_range_under six_digits) rs
all_valid [] = refl
all_valid (r ∷ rs) = ap₂ (λ a b. a && b) (valid_widened r) (all_valid rs)

pub valid_by_six : SixDigitRanges
valid_by_six t past =
    let wide = pasts_widened t past in
    let ranges = widened_ranges t.ranges in
    let apart = ranges_stay_apart wide.0 wide.1.events in
    sym (all_valid t.ranges)
    ∙ (and_parts (list_all (is_valid_range_under eight_digits) ranges) (are_apart ranges)
    (subst HasRangesApart (sym wide.1.after) apart)).0
