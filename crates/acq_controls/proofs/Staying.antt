-- Control connections go on to follow steps.
use Rattle.std.proofs.Common.{◌≡◌, List, [], ◌∷◌, ◌++◌, refl, sym, ap, subst, ◌∙◌}
use Rattle.std.proofs.Common.{arith, append-nil, append_assoc, ◌<◌, Option, Some, None}
use Rattle.std.specs.List.{AllByRecursion}
use Rattle.acq_core.specs.declared.event.Event.{Event}
use Rattle.acq_core.specs.Tables.{Tables, tables_after}
use Rattle.acq_soundness.proofs.Runs.{tables_after-append}
use Rattle.acq_control.specs.Exchanges.{FollowsLog}
use Rattle.acq_control.specs.Log.{Act, behind_acts, served_by}
use Rattle.acq_control.specs.Unmade.{unmade_at}
use Rattle.acq_control.proofs.Following.{follows_served}
use Rattle.acq_control.proofs.Unmade.{log_past}
use Rattle.acq_rounds.specs.Acts.{Connection}
use Rattle.acq_rounds.specs.Runs.{Between, Group, Grouped, OthersGoOn, Step, Untold}
use Rattle.acq_rounds.specs.Runs as runs
use Rattle.acq_rounds.proofs.Running.{events-append}
use Rattle.acq_controls.specs.Aside.{Aside, Open}
use Rattle.acq_controls.specs.Following.{AreActsOf, AreDistinct, ControlsFollow, HasAnswers, Stays}
use Rattle.acq_controls.specs.Following.{IsKnown, events_within}
use Rattle.acq_controls.proofs.Acting.{are-append, are_merged}
use Rattle.acq_controls.proofs.Placing.{EachOpen, each-append, each_both, each_weaker}

-- ---- at first

-- no place is taken
abbrev pub AreFree : List (Option Open) → Type 0
AreFree places = AllByRecursion (λ place. place ≡ None) places

free_open : (p : Open → Type 0) (places : List (Option Open)) → AreFree places → EachOpen p places
free_open p [] h = tt
free_open p (None ∷ xs) h = (tt, free_open p xs h.1)
free_open p (Some x ∷ xs) h = absurd (some_none h.0)
  where
    some_none : Some x ≡ None → ⊥
    some_none e = cc

free_distinct : (places : List (Option Open)) → AreFree places → AreDistinct places
free_distinct [] h = tt
free_distinct (None ∷ xs) h = free_distinct xs h.1
free_distinct (Some x ∷ xs) h = absurd (some_none h.0)
  where
    some_none : Some x ≡ None → ⊥
    some_none e = cc

pub follow_first : (t : Tables) (ended : List Connection) (places : List (Option Open)) →
    ended ≡ [] → AreFree places →
    ControlsFollow t [] (record { count = 0; ended = ended; here = places })
follow_first t ended places none free = rw none (record {
  acts = [];
  are = refl;
  known = tt;
  ended = tt;
  here = free_open (λ o. FollowsLog o.number t [] o.passed) places free;
  numbered = record {
    ended_below = tt;
    below = free_open (λ o. o.number < 0) places free;
    distinct = free_distinct places free;
    apart = tt;
    every = λ k l. absurd (omega (arith, l));
  };
})

-- ---- what is done for terminals

module _ (t : Tables) (acts : List Act) (events : List Event) where
  answers_past : (c : Connection) → HasAnswers t acts c →
      HasAnswers t (acts ++ served_by 0 events ∷ []) c
  answers_past c h = record {
    rest = h.rest;
    unmade = h.unmade;
    taken = h.taken;
    follows = follows_served c.number 0 t acts events c.came c.went h.rest (c.unsent ++ h.unmade)
        h.taken h.follows;
  }

  follows_past : (o : Open) → FollowsLog o.number t acts o.passed →
      FollowsLog o.number t (acts ++ served_by 0 events ∷ []) o.passed
  follows_past o h = log_past o.number t acts (served_by 0 events) o.passed h
      (follows_served o.number 0 t acts events o.passed.came o.passed.went h.held
      (o.passed.unsent ++ unmade_at (behind_acts t acts) o.passed.unmade) o.passed.taken h.follows)

served_past : (t : Tables) (steps : List Step) (step : Step) (events : List Event) (a : Aside) →
    ((x : Tables) → AreActsOf x (step ∷ []) (served_by 0 events ∷ [])) →
    ControlsFollow t steps a → ControlsFollow t (steps ++ step ∷ []) a
served_past t steps step events a is f = record {
  acts = f.acts ++ served_by 0 events ∷ [];
  are = are-append t steps (step ∷ []) f.acts (served_by 0 events ∷ []) f.are
      (is (tables_after t (runs.events_in steps)));
  known = each-append (λ act. IsKnown a.count act.connection act.deed) f.acts
      (served_by 0 events ∷ []) f.known (tt, tt);
  ended = each_weaker (HasAnswers t f.acts) (HasAnswers t (f.acts ++ served_by 0 events ∷ []))
      a.ended (answers_past t f.acts events) f.ended;
  here = each_both (λ o. FollowsLog o.number t f.acts o.passed)
      (λ o. FollowsLog o.number t (f.acts ++ served_by 0 events ∷ []) o.passed) a.here
      (follows_past t f.acts events) f.here;
  numbered = f.numbered;
}

pub past_group : (t : Tables) (steps : List Step) (g : Group) (a : Aside) →
    ControlsFollow t steps a → ControlsFollow t (steps ++ Grouped g ∷ []) a
past_group t steps g a f =
    served_past t steps (Grouped g) (events_within g) a (λ x. ([], refl, refl)) f

pub past_untold : (t : Tables) (steps : List Step) (events : List Event) (a : Aside) →
    ControlsFollow t steps a → ControlsFollow t (steps ++ Untold events ∷ []) a
past_untold t steps events a f =
    served_past t steps (Untold events) events a (λ x. ([], refl, refl)) f

-- ---- one behind the other

-- it goes on to follow these events behind any steps to these tables
abbrev pub GoesOn : Tables → Aside → Aside → List Event → Type 0
GoesOn old before after events = OthersGoOn ControlsFollow old before after events

pub stay_go : (old : Tables) (a b c : Aside) (events : List Event) → Stays a b →
    GoesOn old b c events → GoesOn old a c events
stay_go old a b c events s h = λ t steps is f. h t steps is (s t steps f)

pub go_stay : (old : Tables) (a b c : Aside) (events : List Event) → GoesOn old a b events →
    Stays b c → GoesOn old a c events
go_stay old a b c events h s = λ t steps is f. s t (steps ++ Between events ∷ []) (h t steps is f)

pub stay_none : (a : Aside) → Stays a a
stay_none a = λ t steps f. f

pub stay_both : (a b c : Aside) → Stays a b → Stays b c → Stays a c
stay_both a b c one two = λ t steps f. two t steps (one t steps f)

-- nothing was asked
pub go_none : (old : Tables) (a : Aside) → GoesOn old a a []
go_none old a = λ t steps is f. record {
  acts = f.acts ++ [];
  are = are-append t steps (Between [] ∷ []) f.acts [] f.are ([], [], tt, refl, refl, refl);
  known = subst (λ (l : List Act). AllByRecursion
      (λ act. IsKnown a.count act.connection act.deed) l) (sym (append-nil f.acts)) f.known;
  ended = subst (λ (l : List Act). AllByRecursion (HasAnswers t l) a.ended)
      (sym (append-nil f.acts)) f.ended;
  here = subst (λ (l : List Act). EachOpen (λ o. FollowsLog o.number t l o.passed) a.here)
      (sym (append-nil f.acts)) f.here;
  numbered = f.numbered;
}

pub go_go : (old mid : Tables) (a b c : Aside) (one two : List Event) →
    mid ≡ tables_after old one → GoesOn old a b one → GoesOn mid b c two →
    GoesOn old a c (one ++ two)
go_go old mid a b c one two is first second = λ t steps now f.
    let behind : mid ≡ tables_after t (runs.events_in (steps ++ Between one ∷ [])) =
    is ∙ ap (λ (x : Tables). tables_after x one) now
    ∙ sym (tables_after-append t (runs.events_in steps) one)
    ∙ ap (λ (l : List Event). tables_after t (runs.events_in steps ++ l)) (sym (append-nil one))
    ∙ ap (tables_after t) (sym (events-append steps (Between one ∷ []))) in
    let both = second t (steps ++ Between one ∷ []) behind (first t steps now f) in
    let same : (steps ++ (Between one ∷ [])) ++ (Between two ∷ [])
    ≡ steps ++ (Between one ∷ Between two ∷ []) =
    append_assoc steps (Between one ∷ []) (Between two ∷ []) in
    record {
      acts = both.acts;
      are = are_merged t steps one two both.acts
          (subst (λ (l : List Step). AreActsOf t l both.acts) same both.are);
      known = both.known;
      ended = both.ended;
      here = both.here;
      numbered = both.numbered;
    }
