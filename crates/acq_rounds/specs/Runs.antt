-- What a run leaves.
use Rattle.std.specs.Prelude.{◌≡◌, ◌⊎◌, ◌<◌, ◌≤◌, ◌+◌, ℕ, Bool, true, List, [], ◌∷◌, ◌++◌}
use Rattle.std.specs.Prelude.{length, reverse}
use Rattle.std.specs.List.{AllByRecursion}
use Rattle.acq_core.specs.declared.event.Event.{Event}
use Rattle.acq_core.specs.Tables.{Tables, tables_after}
use Rattle.acq_front.specs.Stops.{Left, LeavesAll, LeavesSome}
use Rattle.acq_front.specs.Talk.{Saying}
use Rattle.acq_rounds.specs.Acts.{Act, Connection, Distinct, Follows, IsAmong, Serves, Taken, Took}
use Rattle.acq_rounds.specs.Acts.{Turn, events_of, numbers, taken_by, taken_of, turns_of}
use Rattle.acq_rounds.specs.Groups.{acts_in, asked, ready_turn}
use Rattle.acq_rounds.specs.Taking.{LeavesGroup}

-- the connections that ended and those that are open, how many were had, the host's tables, and
-- whoever else is served
pub record Whole (O : Type 0) : Type 0 where
  pub ended : List Connection
  pub here : List Connection
  pub count : ℕ
  pub tables : Tables
  pub others : O

abbrev pub whole : {O : Type 0} → List Connection → List Connection → ℕ → Tables → O → Whole O
whole ended here count tables others =
    record { ended = ended; here = here; count = count; tables = tables; others = others }

-- one list of acts is what all connections have had
abbrev pub ServesAll : {O : Type 0} → List Act → Whole O → Type 0
ServesAll acts w = Serves acts w.ended w.here w.count

-- a group that the host took: the connections as they were then, and what was taken
pub record Group : Type 0 where
  pub ended : List Connection
  pub here : List Connection
  pub count : ℕ
  pub taken : List Taken

abbrev pub acts_of : Group → List Act
acts_of g = acts_in g.here g.taken

-- what a host did, step by step: it took a group, or between two groups other events, as those that
-- control connections asked for; or events of which nothing was told, since memory or the store
-- refused a call behind them
pub data Step : Type 0 where
  Grouped : Group → Step
  Between : List Event → Step
  Untold : List Event → Step

-- the acts of all groups, in order
abbrev pub all_acts : List Step → List Act
all_acts [] = []
all_acts (Grouped g ∷ steps) = acts_of g ++ all_acts steps
all_acts (Between events ∷ steps) = all_acts steps
all_acts (Untold events ∷ steps) = all_acts steps

-- the events of all steps, in order
abbrev pub events_in : List Step → List Event
events_in [] = []
events_in (Grouped g ∷ steps) = events_of (taken_of (acts_of g)) ++ events_in steps
events_in (Between events ∷ steps) = events ++ events_in steps
events_in (Untold events ∷ steps) = events ++ events_in steps

-- of each event something was told
abbrev pub AreTold : List Step → Type 0
AreTold [] = Unit {0}
AreTold (Untold events ∷ steps) = ⊥
AreTold (step ∷ steps) = AreTold steps

-- what it is of others, as control connections, that they follow steps from these tables on
abbrev pub Following : Type 0 → Type 1
Following O = Tables → List Step → O → Type 0

-- Behind any steps to these tables that others follow, they go on to follow these events, too.
abbrev pub OthersGoOn : {O : Type 0} → Following O → Tables → (before after : O) →
    List Event → Type 0
OthersGoOn follow now before after events =
    (t : Tables) (steps : List Step) → now ≡ tables_after t (events_in steps) →
    follow t steps before → follow t (steps ++ Between events ∷ []) after

-- how many groups there are
abbrev pub groups_in : List Step → ℕ
groups_in [] = 0
groups_in (Grouped g ∷ steps) = 1 + groups_in steps
groups_in (Between events ∷ steps) = groups_in steps
groups_in (Untold events ∷ steps) = groups_in steps

-- the first list is a beginning of the second
abbrev pub Begins : List Connection → List Connection → Type 0
Begins first all = (rest : List Connection) × (all ≡ first ++ rest)

-- the first list is an end of the second
abbrev pub Ends : List Connection → List Connection → Type 0
Ends last all = (rest : List Connection) × (all ≡ rest ++ last)

-- In this group each connection that was open and had a turn ready has one act, with that turn, and
-- no other has one. What was open then is all that was had and hadn't ended.
pub record IsFair (before : List Act) (final : List Connection) (g : Group) : Type 0 where
  pub serves : Serves before g.ended g.here g.count
  pub each : AllByRecursion (λ c. turns_of (taken_by c.number (acts_of g)) ≡ ready_turn c) g.here
  pub gone : Begins g.ended final

abbrev pub AreFair : List Act → List Connection → List Step → Type 0
AreFair before final [] = Unit {0}
AreFair before final (Grouped g ∷ steps) =
    IsFair before final g × AreFair (before ++ acts_of g) final steps
AreFair before final (Between events ∷ steps) = AreFair before final steps
AreFair before final (Untold events ∷ steps) = AreFair before final steps

-- as many as were asked for, or fewer, where the gate said that none is to follow
abbrev pub IsLast : ℕ → Bool → ℕ → Type 0
IsLast rounds stopped n = (n ≡ rounds) ⊎ ((stopped ≡ true) × (n ≤ rounds))

module _ (may_give : ℕ → Type 0) (may_say : Saying) where
  -- The host did these steps, each over the tables behind those before it.
  abbrev pub Did : Tables → Tables → List Step → Type 0
  Did old new [] = new ≡ old
  Did old new (Grouped g ∷ steps) =
      (mid : Tables) × Took may_give may_say old mid (taken_of (acts_of g)) × Did mid new steps
  Did old new (Between events ∷ steps) = Did (tables_after old events) new steps
  Did old new (Untold events ∷ steps) = Did (tables_after old events) new steps

  -- a stop leaves these tables, or those with the group or the one event that was in hand
  abbrev pub LeavesInHand : Left → Tables → List Turn → Type 0
  LeavesInHand left kept turns = LeavesGroup may_give may_say left kept turns
      ⊎ ((in_hand : List Event) × (length in_hand ≤ 1) × LeavesSome left kept [] in_hand)

module _ {O : Type 0} (may_give : ℕ → Type 0) (may_say : Saying) (follow : Following O) where
  -- The host did steps, and all connections, those that ended too, have had just these in addition;
  -- and others go on to follow them.
  pub record Ran (old new : Whole O) : Type 0 where
    pub steps : List Step
    pub did : Did may_give may_say old.tables new.tables steps
    pub serves : (before : List Act) → ServesAll before old
        → ServesAll (before ++ all_acts steps) new
    pub fair : (before : List Act) → ServesAll before old → AreFair before new.ended steps
    pub gone : Begins old.ended new.ended
    pub others : (t : Tables) (before : List Step) →
        old.tables ≡ tables_after t (events_in before) → follow t before old.others
        → follow t (before ++ steps) new.others

  -- So it ran, taking so many groups, and a stop leaves their tables alone.
  pub record RanOn (old : Whole O) (ended here : List Connection) (count : ℕ) (left : Left)
      (others : O) (so_many : ℕ → Type 0) : Type 0 where
    pub ran : Ran old (whole ended here count left.tables others)
    pub told : AreTold ran.steps
    pub long : so_many (groups_in ran.steps)
    pub stop : LeavesAll left left.tables []

  -- So it ran, until memory or the store refused something: a stop leaves the tables behind the
  -- last step that was kept, or with what was in hand: the group, which is what the open
  -- connections still have ready, or one event between two groups.
  pub record RanUntil (old : Whole O) (ended here : List Connection) (count : ℕ) (left : Left)
      (others : O) : Type 0 where
    pub kept : Tables
    pub ran : Ran old (whole ended here count kept others)
    pub tables : left.is_open → left.tables ≡ kept
    pub stop : LeavesInHand may_give may_say left kept (asked here)

  -- The theorem. There is one list of steps, and of acts in their groups. The host's tables are
  -- those behind them, and what it said to each act's turn is what it says to the events that the
  -- turn makes, over the tables behind what was before it. Of each connection that was had, the
  -- messages among its own acts are what came over it, but for what was held; where an issuer
  -- answers later, its answer to what a message asked is the act behind that; and what went out
  -- over it are the frames of what was said to its acts, but for what was still to be written. No
  -- two have one number, and each that came is among them. Others that had nothing before follow
  -- the same steps.
  pub record HasServed (old new : Tables) (had : List Connection) (given : ℕ)
      (others_then others : O) : Type 0 where
    pub steps : List Step
    pub did : Did may_give may_say old new steps
    pub had_follow : AllByRecursion (Follows (all_acts steps)) had
    pub fair : AreFair [] had steps
    pub distinct : Distinct (numbers had)
    -- no connection that came is left out
    pub every : (k : ℕ) → k < given → IsAmong k (numbers had)
    pub others_follow : follow old [] others_then → follow old steps others

  -- it has served so many groups, and a stop leaves them all
  pub record ServedOn (old : Tables) (left : Left) (had : List Connection) (given : ℕ)
      (others_then others : O) (so_many : ℕ → Type 0) : Type 0 where
    pub served : HasServed old left.tables had given others_then others
    pub told : AreTold served.steps
    pub long : so_many (groups_in served.steps)
    pub stop : LeavesAll left left.tables []

  -- It has served until memory or the store refused something: a stop leaves the steps that were
  -- kept, or with what was in hand: the group, which is what the connections that were open then,
  -- the last that ended, still had ready, or one event between two groups.
  pub record ServedUntil (old : Tables) (left : Left) (had : List Connection) (given : ℕ)
      (others_then others : O) : Type 0 where
    pub kept : Tables
    pub served : HasServed old kept had given others_then others
    pub tables : left.is_open → left.tables ≡ kept
    pub here : List Connection
    pub last : Ends (reverse here) had
    pub stop : LeavesInHand may_give may_say left kept (asked here)
