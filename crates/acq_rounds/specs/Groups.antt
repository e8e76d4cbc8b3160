-- A group: one turn of each connection that has one ready.
use Rattle.std.specs.Prelude.{◌==◌, ℕ, List, [], ◌∷◌, length, Bool, true, false, if◌then◌else◌}
use Rattle.std.specs.Prelude.{Option, Some, None}
use Rattle.acq_core.specs.declared.query.Query.{Query}
use Rattle.acq_link.specs.FirstMessage.{behind_message, first_message}
use Rattle.acq_link.specs.Frames.{framed}
use Rattle.acq_front.specs.Ready as conversation
use Rattle.acq_rounds.specs.Acts.{Act, AnswerTo, Connection, Message, Taken, Told, Turn}
use Rattle.acq_rounds.specs.declared.stage.Stage.{Stage}
use Rattle.acq_rounds.specs.declared.stage.Stage.TheVariants as stage

-- its next message is waited for, or is there
abbrev pub is_listening : Stage → Bool
is_listening stage.Listening = true
is_listening other = false

-- its next turn is there, and nothing is to be written before it is taken
abbrev pub is_ready_at : Stage → (held unsent : List ℕ) → Bool
is_ready_at stage.Listening held unsent = conversation.is_ready held unsent
is_ready_at (stage.Asking query) held unsent = false
is_ready_at (stage.Answered query) held unsent = length unsent == 0

abbrev pub is_ready : Connection → Bool
is_ready c = is_ready_at c.stage c.held c.unsent

-- the turn itself, and what is held behind it
abbrev pub turn_at : Stage → (held : List ℕ) → Turn
turn_at stage.Listening held = Message (first_message held)
turn_at (stage.Asking query) held = AnswerTo query
turn_at (stage.Answered query) held = AnswerTo query

abbrev pub behind_turn : Stage → (held : List ℕ) → List ℕ
behind_turn stage.Listening held = behind_message held
behind_turn (stage.Asking query) held = held
behind_turn (stage.Answered query) held = held

abbrev pub turn_of : Connection → Turn
turn_of c = turn_at c.stage c.held

-- the turn that is ready, if one is
abbrev pub ready_turn : Connection → List Turn
ready_turn c = if is_ready c then turn_of c ∷ [] else []

-- the turns that are ready, one of each connection, in their order
abbrev pub asked : List Connection → List Turn
asked [] = []
asked (c ∷ cs) = if is_ready c then turn_of c ∷ asked cs else asked cs

-- what is waited for behind a turn
abbrev pub stage_of : Option Query → Stage
stage_of None = stage.Listening
stage_of (Some query) = stage.Asking query

-- the connection with its turn taken, and what was told held to be written, or waited for
abbrev pub answered : Connection → Told → Connection
answered c told = record {
  number = c.number;
  came = c.came;
  held = behind_turn c.stage c.held;
  went = c.went;
  unsent = framed told.said;
  stage = stage_of told.waits;
}

-- the acts of a group: what was taken, each by the next connection that was ready
abbrev pub acts_in : List Connection → List Taken → List Act
acts_in [] taken = []
acts_in (c ∷ cs) [] = []
acts_in (c ∷ cs) (x ∷ taken) =
    if is_ready c
    then record { connection = c.number; taken = x } ∷ acts_in cs taken
    else acts_in cs (x ∷ taken)

-- the connections with what was told handed out, each to the next that was ready
abbrev pub handed : List Connection → List Told → List Connection
handed [] told = []
handed (c ∷ cs) [] = c ∷ cs
handed (c ∷ cs) (x ∷ told) =
    if is_ready c then answered c x ∷ handed cs told else c ∷ handed cs (x ∷ told)
