-- What acts are of steps, one behind the other.
use Rattle.std.proofs.Common.{◌≡◌, List, [], ◌∷◌, ◌++◌, refl, sym, ap, subst, ◌∙◌}
use Rattle.std.proofs.Common.{append_assoc}
use Rattle.std.specs.List.{AllByRecursion}
use Rattle.acq_core.specs.declared.event.Event.{Event}
use Rattle.acq_core.specs.Tables.{Tables, tables_after}
use Rattle.acq_soundness.proofs.Runs.{tables_after-append}
use Rattle.acq_control.specs.Log.{Act, behind_act, behind_acts, events_in}
use Rattle.acq_control.proofs.Following.{behind-append}
use Rattle.acq_rounds.specs.Runs.{Between, Group, Grouped, Step, Untold}
use Rattle.acq_rounds.specs.Runs as runs
use Rattle.acq_controls.specs.Following.{AreActsOf, IsAsked, events_by, events_within}

-- the tables behind acts are those behind their events
pub behind_events : (t : Tables) (acts : List Act) →
    behind_acts t acts ≡ tables_after t (events_by t acts)
behind_events t [] = refl
behind_events t (a ∷ acts) =
    behind_events (behind_act t a) acts
    ∙ sym (tables_after-append t (events_in t a.deed) (events_by (behind_act t a) acts))

events_by-append : (t : Tables) (acts more : List Act) →
    events_by t (acts ++ more) ≡ events_by t acts ++ events_by (behind_acts t acts) more
events_by-append t [] more = refl
events_by-append t (a ∷ acts) more =
    let events = events_in t a.deed in
    let next = behind_act t a in
    ap (λ (l : List Event). events ++ l) (events_by-append next acts more)
    ∙ sym (append_assoc events (events_by next acts) (events_by (behind_acts next acts) more))

asked-append : (xs ys : List Act) → AllByRecursion (λ a. IsAsked a.deed) xs →
    AllByRecursion (λ a. IsAsked a.deed) ys → AllByRecursion (λ a. IsAsked a.deed) (xs ++ ys)
asked-append [] ys p q = q
asked-append (x ∷ xs) ys p q = (p.0, asked-append xs ys p.1 q)

-- the tables behind the acts of steps are those behind the steps
pub acts_tables : (t : Tables) (steps : List Step) (acts : List Act) → AreActsOf t steps acts →
    behind_acts t acts ≡ tables_after t (runs.events_in steps)
acts_tables t [] acts are = ap (behind_acts t) are
acts_tables t (Grouped g ∷ steps) acts are =
    let events = events_within g in
    ap (behind_acts t) are.1 ∙ acts_tables (tables_after t events) steps are.0 are.2
    ∙ sym (tables_after-append t events (runs.events_in steps))
acts_tables t (Between events ∷ steps) acts are =
    let asked = are.0 in
    let rest = are.1 in
    let same : behind_acts t asked ≡ tables_after t events =
    behind_events t asked ∙ ap (tables_after t) (sym are.3) in
    ap (behind_acts t) are.4 ∙ behind-append t asked rest
    ∙ ap (λ (x : Tables). behind_acts x rest) same
    ∙ acts_tables (tables_after t events) steps rest are.5
    ∙ sym (tables_after-append t events (runs.events_in steps))
acts_tables t (Untold events ∷ steps) acts are =
    ap (behind_acts t) are.1 ∙ acts_tables (tables_after t events) steps are.0 are.2
    ∙ sym (tables_after-append t events (runs.events_in steps))

-- more steps, and their acts
pub are-append : (t : Tables) (steps more : List Step) (acts others : List Act) →
    AreActsOf t steps acts → AreActsOf (tables_after t (runs.events_in steps)) more others →
    AreActsOf t (steps ++ more) (acts ++ others)
are-append t [] more acts others are next =
    subst (λ (l : List Act). AreActsOf t more (l ++ others)) (sym are) next
are-append t (Grouped g ∷ steps) more acts others are next =
    let events = events_within g in (
      are.0 ++ others,
      ap (λ (l : List Act). l ++ others) are.1,
      are-append (tables_after t events) steps more are.0 others are.2
          (subst (λ (x : Tables). AreActsOf x more others)
          (tables_after-append t events (runs.events_in steps)) next),
    )
are-append t (Between events ∷ steps) more acts others are next =
    let asked = are.0 in
    let rest = are.1 in (
      asked,
      rest ++ others,
      are.2,
      are.3,
      ap (λ (l : List Act). l ++ others) are.4 ∙ append_assoc asked rest others,
      are-append (tables_after t events) steps more rest others are.5
          (subst (λ (x : Tables). AreActsOf x more others)
          (tables_after-append t events (runs.events_in steps)) next),
    )
are-append t (Untold events ∷ steps) more acts others are next = (
  are.0 ++ others,
  ap (λ (l : List Act). l ++ others) are.1,
  are-append (tables_after t events) steps more are.0 others are.2
      (subst (λ (x : Tables). AreActsOf x more others)
      (tables_after-append t events (runs.events_in steps)) next),
)

-- two steps between the same groups are one
pub are_merged : (t : Tables) (steps : List Step) (one two : List Event) (acts : List Act) →
    AreActsOf t (steps ++ (Between one ∷ Between two ∷ [])) acts →
    AreActsOf t (steps ++ (Between (one ++ two) ∷ [])) acts
are_merged t [] one two acts are =
    let first = are.0 in
    let next = are.5 in
    let second = next.0 in
    let behind : behind_acts t first ≡ tables_after t one =
    behind_events t first ∙ ap (tables_after t) (sym are.3) in
    let none : next.1 ≡ [] = next.5 in (
      first ++ second,
      [],
      asked-append first second are.2 next.2,
      ap (λ (l : List Event). l ++ two) are.3
          ∙ ap (λ (l : List Event). events_by t first ++ l)
          (next.3 ∙ ap (λ (x : Tables). events_by x second) (sym behind))
          ∙ sym (events_by-append t first second),
      are.4
          ∙ ap (λ (l : List Act). first ++ l)
          (next.4 ∙ ap (λ (l : List Act). second ++ l) none)
          ∙ sym (append_assoc first second []),
      refl,
    )
are_merged t (Grouped g ∷ steps) one two acts are =
    (are.0, are.1, are_merged (tables_after t (events_within g)) steps one two are.0 are.2)
are_merged t (Between events ∷ steps) one two acts are = (
  are.0,
  are.1,
  are.2,
  are.3,
  are.4,
  are_merged (tables_after t events) steps one two are.1 are.5,
)
are_merged t (Untold events ∷ steps) one two acts are =
    (are.0, are.1, are_merged (tables_after t events) steps one two are.0 are.2)
