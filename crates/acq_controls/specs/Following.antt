-- Control connections beside terminals: what each has of the steps that a host did.
use Rattle.std.specs.Prelude.{◌≡◌, ◌≢◌, ◌<◌, ◌⊎◌, ℕ, List, [], ◌∷◌, ◌++◌, Option, Some, None, IfSome}
use Rattle.std.specs.List.{AllByRecursion}
use Rattle.acq_core.specs.declared.event.Event.{Event}
use Rattle.acq_core.specs.Tables.{Tables, tables_after}
use Rattle.acq_control.specs.Exchanges.{FollowsLog}
use Rattle.acq_control.specs.Log.{Act, Asked, Deed, FollowsActs, Served, behind_act, events_in}
use Rattle.acq_control.specs.Log.{served_by}
use Rattle.acq_rounds.specs.Acts.{Connection, IsAmong, events_of, numbers, taken_of}
use Rattle.acq_rounds.specs.Runs.{Between, Group, Grouped, Step, Untold, acts_of}
use Rattle.acq_controls.specs.Aside.{Aside, Open}

-- a control connection asked for what was done
abbrev pub IsAsked : Deed → Type 0
IsAsked (Served events) = ⊥
IsAsked (Asked moment line asked) = Unit {0}

-- the events of acts, each over the tables behind those before it
abbrev pub events_by : Tables → List Act → List Event
events_by t [] = []
events_by t (a ∷ acts) = events_in t a.deed ++ events_by (behind_act t a) acts

-- the events of a group
abbrev pub events_within : Group → List Event
events_within g = events_of (taken_of (acts_of g))

-- These acts are what was done in these steps: a group was taken for terminals; between two groups
-- control connections asked, each by a line of its own; and events of which nothing was told are
-- nobody's act that gets an answer.
abbrev pub AreActsOf : Tables → List Step → List Act → Type 0
AreActsOf t [] acts = acts ≡ []
AreActsOf t (Grouped g ∷ steps) acts =
    (rest : List Act) × (acts ≡ served_by 0 (events_within g) ∷ rest)
    × AreActsOf (tables_after t (events_within g)) steps rest
AreActsOf t (Between events ∷ steps) acts =
    (asked rest : List Act) × AllByRecursion (λ a. IsAsked a.deed) asked
    × (events ≡ events_by t asked) × (acts ≡ asked ++ rest)
    × AreActsOf (tables_after t events) steps rest
AreActsOf t (Untold events ∷ steps) acts =
    (rest : List Act) × (acts ≡ served_by 0 events ∷ rest)
    × AreActsOf (tables_after t events) steps rest

-- What came by a control connection are the lines that it asked by, and behind them some rest; and
-- what went out, with what was still to be written and what was still to be made, is what is said
-- to them.
pub record HasAnswers (t : Tables) (acts : List Act) (c : Connection) : Type 0 where
  pub rest : List ℕ
  pub unmade : List ℕ
  pub taken : ℕ
  pub follows : FollowsActs c.number t acts c.came c.went rest (c.unsent ++ unmade) taken

-- no two that are open have one number
abbrev pub AreDistinct : List (Option Open) → Type 0
AreDistinct [] = Unit {0}
AreDistinct (None ∷ places) = AreDistinct places
AreDistinct (Some o ∷ places) =
    AllByRecursion (λ p. IfSome p (λ other. other.number ≢ o.number)) places × AreDistinct places

-- one that is open has this number
abbrev pub IsHere : ℕ → List (Option Open) → Type 0
IsHere k [] = ⊥
IsHere k (None ∷ places) = IsHere k places
IsHere k (Some o ∷ places) = (o.number ≡ k) ⊎ IsHere k places

-- no number stands twice, those from count on are free, and each below it is of one that ended or
-- is open: none is left out
pub record AreNumbered (a : Aside) : Type 0 where
  pub ended_below : AllByRecursion (λ c. c.number < a.count) a.ended
  pub below : AllByRecursion (λ p. IfSome p (λ o. o.number < a.count)) a.here
  pub distinct : AreDistinct a.here
  pub apart : AllByRecursion
      (λ c. AllByRecursion (λ p. IfSome p (λ o. o.number ≢ c.number)) a.here) a.ended
  pub every : (k : ℕ) → k < a.count → IsAmong k (numbers a.ended) ⊎ IsHere k a.here

-- a control connection that asked has a number below this
abbrev pub IsKnown : ℕ → ℕ → Deed → Type 0
IsKnown count number (Served events) = Unit {0}
IsKnown count number (Asked moment line asked) = number < count

-- There is one list of acts, which are what was done in these steps from these tables on; and each
-- control connection, those that ended too, has the answers to its own lines, whatever was done for
-- others between them.
pub record ControlsFollow (t : Tables) (steps : List Step) (a : Aside) : Type 0 where
  pub acts : List Act
  pub are : AreActsOf t steps acts
  pub known : AllByRecursion (λ act. IsKnown a.count act.connection act.deed) acts
  pub ended : AllByRecursion (HasAnswers t acts) a.ended
  pub here : AllByRecursion (λ p. IfSome p (λ o. FollowsLog o.number t acts o.passed)) a.here
  pub numbered : AreNumbered a

-- whatever steps they follow, they do so as before
abbrev pub Stays : Aside → Aside → Type 0
Stays before after =
    (t : Tables) (steps : List Step) → ControlsFollow t steps before → ControlsFollow t steps after

-- none has asked for anything yet
abbrev pub HadNone : Aside → Type 0
HadNone a = (t : Tables) → ControlsFollow t [] a
