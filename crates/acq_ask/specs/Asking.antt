-- The messages of an input, each sent to a host behind the reply to the one before.
use Rattle.std.specs.Prelude.{◌≡◌, ◌⊎◌, ℕ, Bool, true, List, [], ◌++◌, map, Result, Ok, Err}
use Rattle.std.specs.List.{flat_map, list_all, list_any}
use Rattle.acq_link.specs.Frames.{Frames, FramesThen, has_bad_length, is_partial}
use Rattle.acq_link.specs.FramesAt.{BeginsWithFrame, MayBecomeFrame}
use Rattle.acq_link.specs.declared.input_fault.InputFault as input
use Rattle.acq_ask.specs.Turns.{LacksBy, Outcome, came_by, goes_on, lacks_reply, sent_by}
use Rattle.acq_ask.specs.Turns.{shown_by}
use Rattle.acq_ask.specs.declared.ask_fault.AskFault as fault
use Rattle.acq_ask.specs.declared.ask_fault.AskFault.{AskFault}

-- what a fault of the input is
abbrev pub of_input : input.InputFault → AskFault
of_input input.TheVariants.Memory = fault.TheVariants.Memory
of_input input.TheVariants.Read = fault.TheVariants.Read

-- why no whole frame stands at the front of some bytes
abbrev pub LacksFrame : List ℕ → AskFault → Type 0
LacksFrame bytes fault.TheVariants.BadLength = has_bad_length bytes ≡ true
LacksFrame bytes fault.TheVariants.Ended = is_partial bytes ≡ true
LacksFrame bytes other = ⊥

-- the same of no bytes, too
abbrev pub LacksFront : List ℕ → AskFault → Type 0
LacksFront bytes fault.TheVariants.BadLength = has_bad_length bytes ≡ true
LacksFront bytes fault.TheVariants.Ended = MayBecomeFrame bytes
LacksFront bytes other = ⊥

-- ---- a talk

-- what went to a host, what came from it, and what of that was shown
pub record Talk : Type 0 where
  pub sent : List ℕ
  pub came : List ℕ
  pub shown : List ℕ

abbrev pub joined : Talk → Talk → Talk
joined before after = record {
  sent = before.sent ++ after.sent;
  came = before.came ++ after.came;
  shown = before.shown ++ after.shown;
}

-- a message and what came of it
pub record Turn : Type 0 where
  pub message : List ℕ
  pub outcome : Outcome

abbrev pub messages : List Turn → List (List ℕ)
messages turns = map (λ (turn : Turn). turn.message) turns

abbrev pub sent_in : Turn → List ℕ
sent_in turn = sent_by turn.message turn.outcome

abbrev pub came_in : Turn → List ℕ
came_in turn = came_by turn.outcome

abbrev pub shown_in : ℕ → Turn → List ℕ
shown_in within turn = shown_by within turn.message turn.outcome

-- the next message may be sent behind it
abbrev pub passes : Turn → Bool
passes turn = goes_on turn.outcome

abbrev pub is_unanswered : Turn → Bool
is_unanswered turn = lacks_reply turn.outcome

-- These turns were taken, one after the other: each message's frame went out behind the reply to
-- the one before, and each was shown with what came of it. Behind them came this rest.
pub record Took (within : ℕ) (talk : Talk) (turns : List Turn) (rest : List ℕ) : Type 0 where
  pub sent : talk.sent ≡ flat_map sent_in turns
  pub came : talk.came ≡ flat_map came_in turns ++ rest
  pub shown : talk.shown ≡ flat_map (shown_in within) turns
  pub each : list_all passes turns ≡ true

-- ---- how a turn goes

-- these bytes are the first of those
abbrev pub IsFront : List ℕ → List ℕ → Type 0
IsFront front whole = (behind : List ℕ) × (whole ≡ front ++ behind)

-- The turn of a message: its frame went out, its reply came, of which some bytes were held before,
-- and both were shown; or no reply could be had of what came, and why was shown.
pub record TakesWhole (within : ℕ) (message held : List ℕ) (turn : Talk) (after : List ℕ)
    (outcome : Outcome) : Type 0 where
  pub sent : turn.sent ≡ sent_by message outcome
  pub came : held ++ turn.came ≡ came_by outcome ++ after
  pub lacks : LacksBy (held ++ turn.came) outcome
  pub shown : turn.shown ≡ shown_by within message outcome

-- A fault stopped it between: no more went out than its frame, and no more was shown than it and
-- what came of it.
pub record TakesPart (within : ℕ) (message : List ℕ) (turn : Talk) : Type 0 where
  pub outcome : Outcome
  pub sent : IsFront turn.sent (sent_by message outcome)
  pub shown : IsFront turn.shown (shown_by within message outcome)

-- how it goes; the result says whether no reply came in time
abbrev pub TakesTurn : ℕ → (message held : List ℕ) → Talk → (after : List ℕ)
    → Result Bool AskFault → Type 0
TakesTurn within message held turn after (Ok silent) =
    (outcome : Outcome) × TakesWhole within message held turn after outcome
    × (goes_on outcome ≡ true) × (silent ≡ lacks_reply outcome)
TakesTurn within message held turn after (Err (fault.TheVariants.NoReply cause)) =
    TakesWhole within message held turn after (Err cause)
TakesTurn within message held turn after (Err fault.TheVariants.Memory) =
    TakesPart within message turn
TakesTurn within message held turn after (Err (fault.TheVariants.Write n)) =
    TakesPart within message turn
TakesTurn within message held turn after (Err other) = ⊥

-- how a turn ends behind what came of its message
abbrev pub EndsTurn : Outcome → Result Bool AskFault → Type 0
EndsTurn outcome (Ok silent) = (goes_on outcome ≡ true) × (silent ≡ lacks_reply outcome)
EndsTurn outcome (Err (fault.TheVariants.NoReply cause)) = outcome ≡ Err cause
EndsTurn outcome (Err other) = ⊥

-- ---- how all of them go

-- the message's frame stands at the front of the input's rest, and its turn was stopped
pub record StopsTurn (within : ℕ) (input held : List ℕ) (turn : Talk) (cause : AskFault) : Type 0
  where
    pub message : List ℕ
    pub later : List ℕ
    pub after : List ℕ
    pub next : BeginsWithFrame input message later
    pub stops : TakesTurn within message held turn after (Err cause)

-- all of the input is frames of messages, whose turns were taken
pub record AsksAll (within : ℕ) (input : List ℕ) (talk : Talk) (silent : Bool) : Type 0 where
  pub turns : List Turn
  pub rest : List ℕ
  pub taken : Frames input (messages turns)
  pub took : Took within talk turns rest
  pub unanswered : silent ≡ list_any is_unanswered turns

-- The turns of the input's first messages were taken, and then a fault stopped it: no frame stands
-- next, or it stopped the next one's turn. Where the input can't be read, there are none.
pub record AsksSome (within : ℕ) (input : List ℕ) (talk : Talk) (cause : AskFault) : Type 0 where
  pub turns : List Turn
  pub rest : List ℕ
  pub before : Talk
  pub held : List ℕ
  pub taken : FramesThen input (messages turns) held
  pub took : Took within before turns rest
  pub stops : ((talk ≡ before) × LacksFrame held cause)
      ⊎ ((turn : Talk) × (talk ≡ joined before turn) × StopsTurn within held rest turn cause)

-- nothing was said, since the input couldn't be read
abbrev pub SaysNothing : Talk → AskFault → Type 0
SaysNothing talk cause =
    (talk ≡ record { sent = []; came = []; shown = [] })
    × (cause ≡ fault.TheVariants.Memory ⊎ cause ≡ fault.TheVariants.Read)

-- how the frames of an input went
abbrev pub AsksFrames : ℕ → (input : List ℕ) → Talk → Result Bool AskFault → Type 0
AsksFrames within input talk (Ok silent) = AsksAll within input talk silent
AsksFrames within input talk (Err cause) = AsksSome within input talk cause

-- how it went; the result says whether a message got no reply in time
abbrev pub Asks : ℕ → (input : List ℕ) → Talk → Result Bool AskFault → Type 0
Asks within input talk (Ok silent) = AsksAll within input talk silent
Asks within input talk (Err cause) = SaysNothing talk cause ⊎ AsksSome within input talk cause
