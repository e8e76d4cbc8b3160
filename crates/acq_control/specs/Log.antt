-- Control connections and terminals to one host: what was done for whom, and what each control
-- connection has of it.
use Rattle.std.specs.Prelude.{◌≡◌, ◌==◌, ◌+◌, ℕ, List, [], ◌∷◌, ◌++◌, length, Option}
use Rattle.std.specs.Prelude.{if◌then◌else◌}
use Rattle.std.specs.List.{All, flat_map}
use Rattle.acq_core.specs.declared.event.Event.{Event}
use Rattle.acq_core.specs.Tables.{Tables, tables_after}
use Rattle.acq_control.specs.Lines.{LinesThen}
use Rattle.acq_control.specs.Questions.{Asks}
use Rattle.acq_control.specs.Answers.{answer_of, events_asked}
use Rattle.acq_control.specs.declared.question.Question.{Question}

-- what was done for a connection: the events of a terminal's message were taken; or a line of a
-- control connection was, at a moment, and what it asks was done
pub data Deed : Type 0 where
  Served : List Event → Deed
  Asked : (moment : ℕ) (line : List ℕ) → Option Question → Deed

pub record Act : Type 0 where
  pub connection : ℕ
  pub deed : Deed

-- the events of a terminal's message were taken
abbrev pub served_by : ℕ → List Event → Act
served_by k events = record { connection = k; deed = Served events }

-- a line of a control connection was taken, and what it asks was done
abbrev pub asked_by : ℕ → (moment : ℕ) (line : List ℕ) → Option Question → Act
asked_by k moment line asked = record { connection = k; deed = Asked moment line asked }

-- ---- what an act is to the tables

abbrev pub events_in : Tables → Deed → List Event
events_in t (Served events) = events
events_in t (Asked moment line asked) = events_asked t asked

-- the tables behind an act
abbrev pub behind_act : Tables → Act → Tables
behind_act t a = tables_after t (events_in t a.deed)

-- the tables behind acts
abbrev pub behind_acts : Tables → List Act → Tables
behind_acts t [] = t
behind_acts t (a ∷ acts) = behind_acts (behind_act t a) acts

-- ---- what an act is to a control connection

-- the line that was taken, and whether it asks what was done
abbrev pub lines_in : Deed → List (List ℕ)
lines_in (Served events) = []
lines_in (Asked moment line asked) = line ∷ []

abbrev pub IsAsked : Deed → Type 0
IsAsked (Served events) = Unit {0}
IsAsked (Asked moment line asked) = Asks moment line asked

-- what is said to it, if it is the line of this number
abbrev pub said_to : Tables → ℕ → Deed → List ℕ
said_to t number (Served events) = []
said_to t number (Asked moment line asked) = answer_of t number asked

-- what an act has for a connection: nothing, if it was done for another
abbrev pub own : {X : Type 0} → ℕ → Act → List X → List X
own k a xs = if a.connection == k then xs else []

-- the lines that came by a connection, in order
abbrev pub lines_by : ℕ → List Act → List (List ℕ)
lines_by k acts = flat_map (λ a. own k a (lines_in a.deed)) acts

-- what is said to a connection that has taken so many lines, in order, whatever others asked
-- between them
abbrev pub answers_to : ℕ → Tables → ℕ → List Act → List ℕ
answers_to k t taken [] = []
answers_to k t taken (a ∷ acts) =
    own k a (said_to t (taken + 1) a.deed)
    ++ answers_to k (behind_act t a) (taken + length (own k a (lines_in a.deed))) acts

-- the act was done for another, or a line of this connection asks what was done
abbrev pub IsAskedBy : ℕ → Act → Type 0
IsAskedBy k a = a.connection ≡ k → IsAsked a.deed

-- What came by a control connection are the lines that it asked by, and behind them what is held;
-- and what went out, with what is still to be written, is what is said to them.
pub record FollowsActs (k : ℕ) (t : Tables) (acts : List Act) (input output held unsent : List ℕ)
    (taken : ℕ) : Type 0 where
  pub came : LinesThen input (lines_by k acts) held
  pub count : taken ≡ length (lines_by k acts)
  pub asked : All (IsAskedBy k) acts
  pub written : output ++ unsent ≡ answers_to k t 0 acts
