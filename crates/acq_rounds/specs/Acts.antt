-- Many connections to one host: the turns that it took, one after the other, by which connection
-- each came, and what each connection has of it.
use Rattle.std.specs.Prelude.{◌≡◌, ◌≢◌, ◌⊎◌, ◌<◌, ◌==◌, ℕ, List, [], ◌∷◌, ◌++◌, map, true}
use Rattle.std.specs.Prelude.{Option, Some, None, if◌then◌else◌}
use Rattle.std.specs.List.{All, AllByRecursion, flat_map}
use Rattle.acq_link.specs.Frames.{FramesThen, fit_frames, framed}
use Rattle.acq_message.specs.declared.verdict.Verdict.{Verdict}
use Rattle.acq_core.specs.declared.event.Event.{Event}
use Rattle.acq_core.specs.declared.event.Event.TheVariants.{Answer, Frame}
use Rattle.acq_core.specs.declared.output.Output.{Output}
use Rattle.acq_core.specs.declared.output.Output.TheVariants.{Ask}
use Rattle.acq_core.specs.declared.query.Query.{Query}
use Rattle.acq_core.specs.Arrivals.{arrival_of}
use Rattle.acq_core.specs.Tables.{Tables, step_output, step_tables, tables_after}
use Rattle.acq_front.specs.Talk.{AreSaid, Saying, queries, replies}
use Rattle.acq_front.specs.Turns.{Makes}
use Rattle.acq_rounds.specs.declared.stage.Stage.{Stage}
use Rattle.acq_rounds.specs.declared.stage.Stage.TheVariants as stage

-- what a connection's next turn is: a message that came, or the issuer's answer to what it asked
pub data Turn : Type 0 where
  Message : List ℕ → Turn
  AnswerTo : Query → Turn

-- What the host took by a turn: the moments and the verdicts that were given for it, the events
-- that it made, what was asked by it and is still to be answered, and what was replied.
pub record Taken : Type 0 where
  pub turn : Turn
  pub moments : List ℕ
  pub verdicts : List Verdict
  pub events : List Event
  pub waits : Option Query
  pub said : List (List ℕ)

-- the query that an output is, if it is one
abbrev pub query_in : Output → Option Query
query_in (Ask query) = Some query
query_in other = None

-- the query that was said to the last of these events, if that is what was said
abbrev pub asked_last : Tables → List Event → Option Query
asked_last t [] = None
asked_last t (e ∷ []) = query_in (step_output t (arrival_of e))
asked_last t (e ∷ f ∷ es) = asked_last (step_tables t (arrival_of e)) (f ∷ es)

-- a message whose issuer is asked, and answers later
pub record AsksLater (t : Tables) (message : List ℕ) (x : Taken) : Type 0 where
  pub moment : ℕ
  pub given : x.moments ≡ moment ∷ []
  pub event : x.events ≡ Frame moment message ∷ []
  pub query : Query
  pub asks : step_output t (arrival_of (Frame moment message)) ≡ Ask query
  pub unanswered : x.verdicts ≡ []

module _ (may_say : Saying) where
  -- a message, with its issuer's answer where it was asked and answered at once
  pub record AnswersAtOnce (t : Tables) (message : List ℕ) (x : Taken) : Type 0 where
    pub makes : Makes t message x.moments x.verdicts x.events
    pub asked : AreSaid may_say (queries t x.events) x.verdicts

  -- the issuer's answer to what was asked before: a verdict that it may say to that
  pub record AnswersLater (query : Query) (x : Taken) : Type 0 where
    pub moment : ℕ
    pub verdict : Verdict
    pub given : x.moments ≡ moment ∷ []
    pub event : x.events ≡ Answer moment query.merchant query.reference verdict ∷ []
    pub answers : x.verdicts ≡ verdict ∷ []
    pub may : may_say query verdict

  -- what a turn makes
  abbrev pub MakesOf : Tables → Turn → Taken → Type 0
  MakesOf t (Message message) x = AnswersAtOnce t message x ⊎ AsksLater t message x
  MakesOf t (AnswerTo query) x = AnswersLater query x

module _ (may_give : ℕ → Type 0) (may_say : Saying) where
  -- Over these tables the turn makes these events, at moments that may be given; what was said are
  -- the replies to them, and what is still to be answered is what was asked last.
  pub record IsTaken (t : Tables) (x : Taken) : Type 0 where
    pub makes : MakesOf may_say t x.turn x
    pub given : All may_give x.moments
    pub waits : x.waits ≡ asked_last t x.events
    pub said : x.said ≡ replies t x.events
    pub fit : fit_frames x.said ≡ true

  -- the host took these, each over the tables behind those before it
  abbrev pub Took : (old new : Tables) → List Taken → Type 0
  Took old new [] = new ≡ old
  Took old new (x ∷ xs) = IsTaken old x × Took (tables_after old x.events) new xs

abbrev pub events_of : List Taken → List Event
events_of xs = flat_map (λ x. x.events) xs

abbrev pub turns_of : List Taken → List Turn
turns_of xs = map (λ x. x.turn) xs

-- what a host told a connection at its turn: what is still to be answered, and what was replied
pub record Told : Type 0 where
  pub waits : Option Query
  pub said : List (List ℕ)

abbrev pub told_in : Taken → Told
told_in x = record { waits = x.waits; said = x.said }

abbrev pub told_of : List Taken → List Told
told_of xs = map told_in xs

-- a turn of a connection
pub record Act : Type 0 where
  pub connection : ℕ
  pub taken : Taken

abbrev pub taken_of : List Act → List Taken
taken_of acts = map (λ a. a.taken) acts

-- what was taken by a connection, in order
abbrev pub taken_by : ℕ → List Act → List Taken
taken_by k [] = []
taken_by k (a ∷ acts) = (if a.connection == k then a.taken ∷ [] else []) ++ taken_by k acts

-- the message that a turn is, if it is one
abbrev pub message_in : Turn → List (List ℕ)
message_in (Message message) = message ∷ []
message_in (AnswerTo query) = []

-- the messages among what was taken
abbrev pub messages_in : List Taken → List (List ℕ)
messages_in xs = flat_map (λ x. message_in x.turn) xs

-- what was said to all of it
abbrev pub said_to : List Taken → List (List ℕ)
said_to xs = flat_map (λ x. x.said) xs

-- the turn is a message, or where an issuer's answer is waited for, that answer
abbrev pub IsNext : Option Query → Turn → Type 0
IsNext None (Message message) = Unit {0}
IsNext None (AnswerTo query) = ⊥
IsNext (Some asked) (Message message) = ⊥
IsNext (Some asked) (AnswerTo query) = query ≡ asked

-- One turn came after the other: a message, and where its issuer was to answer later, that answer
-- before the next message; and then this is waited for.
abbrev pub TakeTurns : Option Query → List Taken → Option Query → Type 0
TakeTurns waits [] now = now ≡ waits
TakeTurns waits (x ∷ xs) now = IsNext waits x.turn × TakeTurns x.waits xs now

-- what is waited for
abbrev pub awaited : Stage → Option Query
awaited stage.Listening = None
awaited (stage.Asking query) = Some query
awaited (stage.Answered query) = Some query

-- A connection: its number; what came, and what of it belongs to no message that was taken; what
-- went out, and what of a reply is still to be written; and what its next turn waits for.
pub record Connection : Type 0 where
  pub number : ℕ
  pub came : List ℕ
  pub held : List ℕ
  pub went : List ℕ
  pub unsent : List ℕ
  pub stage : Stage

-- What came are the frames of the messages among what was taken, and behind them what is held; what
-- went out, with what is still to be written, are the frames of what was said to it; and an
-- issuer's answer came to what was asked, before the next message.
pub record HasOf (xs : List Taken) (c : Connection) : Type 0 where
  pub came : FramesThen c.came (messages_in xs) c.held
  pub written : c.went ++ c.unsent ≡ framed (said_to xs)
  pub turns : TakeTurns None xs (awaited c.stage)

-- a connection has what it has of its own acts
abbrev pub Follows : List Act → Connection → Type 0
Follows acts c = HasOf (taken_by c.number acts) c

abbrev pub numbers : List Connection → List ℕ
numbers cs = map (λ c. c.number) cs

-- the number is none of these
abbrev pub IsOther : ℕ → List ℕ → Type 0
IsOther k ks = AllByRecursion (λ j. j ≢ k) ks

-- no number stands twice
abbrev pub Distinct : List ℕ → Type 0
Distinct [] = Unit {0}
Distinct (k ∷ ks) = IsOther k ks × Distinct ks

-- the number is one of these
abbrev pub IsAmong : ℕ → List ℕ → Type 0
IsAmong k [] = ⊥
IsAmong k (j ∷ ks) = (j ≡ k) ⊎ IsAmong k ks

-- One list of acts is what all connections have had, those that ended and those that are open; of
-- two of them no number is the same, and numbers from count on are free.
pub record Serves (acts : List Act) (ended here : List Connection) (count : ℕ) : Type 0 where
  pub ended_follow : AllByRecursion (Follows acts) ended
  pub here_follow : AllByRecursion (Follows acts) here
  pub distinct : Distinct (numbers here)
  pub ended_distinct : Distinct (numbers ended)
  pub apart : AllByRecursion (λ e. IsOther e.number (numbers here)) ended
  pub ended_below : AllByRecursion (λ c. c.number < count) ended
  pub below : AllByRecursion (λ k. k < count) (numbers here)
  pub known : AllByRecursion (λ a. a.connection < count) acts
  -- each that was had ended, or is open
  pub each : (k : ℕ) → k < count → IsAmong k (numbers ended) ⊎ IsAmong k (numbers here)
