-- One control connection to a host that has many, a round at a time.
use Rattle.std.specs.Prelude.{◌≡◌, ◌+◌, ◌<◌, ℕ, Bool, true, false, List, [], ◌∷◌, ◌++◌}
use Rattle.std.specs.Prelude.{length, Option, Result, Ok, Err}
use Rattle.acq_core.specs.Tables.{Tables}
use Rattle.acq_front.specs.Stops.{Left, LeavesAll}
use Rattle.acq_front.specs.declared.front_fault.FrontFault.{FrontFault}
use Rattle.acq_front.specs.declared.front_fault.FrontFault.TheVariants.{Memory, Store}
use Rattle.acq_front.specs.declared.front_fault.FrontFault.TheVariants as fault
use Rattle.acq_status.specs.declared.serving.Serving.{Serving}
use Rattle.acq_control.specs.Lines.{IsInLine}
use Rattle.acq_control.specs.Held.{Held, Holds, is_nothing}
use Rattle.acq_control.specs.Questions.{Shows, wish_of}
use Rattle.acq_control.specs.Answers.{events_asked, tables_behind}
use Rattle.acq_control.specs.Log.{Act, FollowsActs, asked_by, behind_acts}
use Rattle.acq_control.specs.Ends as turns
use Rattle.acq_control.specs.Unmade.{MayBeUnmade, is_said, unmade_at}
use Rattle.acq_control.specs.declared.control_exchange.ControlExchange.{ControlExchange}
use Rattle.acq_control.specs.declared.control_round.ControlRound.{ControlRound}
use Rattle.acq_control.specs.declared.control_round.ControlRound.TheVariants.{Ended, GoesOn, Took}
use Rattle.acq_control.specs.declared.control_round.ControlRound.TheVariants.{Waits}
use Rattle.acq_control.specs.declared.question.Question.{Question}
use Rattle.acq_control.specs.declared.unmade_answer.UnmadeAnswer.{UnmadeAnswer}
use Rattle.acq_control.specs.declared.wish.Wish.{Wish}

-- what passed over a connection so far
pub record Passed : Type 0 where
  -- what came, and what of it belongs to no line yet
  pub came : List ℕ
  pub held : Held
  -- what went out, what of an answer is made and still to be written, and what of it is still to
  -- be made
  pub went : List ℕ
  pub unsent : List ℕ
  pub unmade : Option UnmadeAnswer
  -- how many lines were taken
  pub taken : ℕ

module _ {L : Type 0} where
  abbrev pub line_of : ControlExchange L → L
  line_of e = e.line

  abbrev pub held_of : ControlExchange L → Held
  held_of e = turns.held_of e.conversation

  abbrev pub unsent_of : ControlExchange L → List ℕ
  unsent_of e = turns.unsent_of e.conversation

  abbrev pub unmade_of : ControlExchange L → Option UnmadeAnswer
  unmade_of e = turns.unmade_of e.conversation

  abbrev pub taken_of : ControlExchange L → ℕ
  taken_of e = turns.taken_of e.conversation

  -- what passed over it, by what its line received and sent
  abbrev pub passed : (L → List ℕ) → (L → List ℕ) → ControlExchange L → Passed
  passed received sent e = record {
    came = received (line_of e);
    held = held_of e;
    went = sent (line_of e);
    unsent = unsent_of e;
    unmade = unmade_of e;
    taken = taken_of e;
  }

-- What passed over connection k follows what was done for all connections to a host; what came and
-- belongs to no line yet are bytes that are held.
pub record FollowsLog (k : ℕ) (t : Tables) (acts : List Act) (p : Passed) : Type 0 where
  pub held : List ℕ
  pub holds : Holds p.held held
  pub follows : FollowsActs k t acts p.came p.went held
      (p.unsent ++ unmade_at (behind_acts t acts) p.unmade) p.taken
  pub may : MayBeUnmade (behind_acts t acts) p.unmade

-- Nothing came, nothing went out, and nothing more is said.
pub record IsSilent (before after : Passed) : Type 0 where
  pub came : after.came ≡ before.came
  pub went : after.went ≡ before.went
  pub unsent : after.unsent ≡ before.unsent
  pub unmade : after.unmade ≡ before.unmade
  pub taken : after.taken ≡ before.taken

-- whether a round tells that the input ended
abbrev pub tells_end : Result ControlRound FrontFault → Bool
tells_end (Ok Ended) = true
tells_end (Err fault.Ended) = true
tells_end other = false

-- Where the connection ended: at its own end nothing is held, and nothing is still to be written
-- or made; else the beginning of a line is held, behind which the input ended. No line is too long
-- for it.
abbrev pub EndsWith : Held → List ℕ → Option UnmadeAnswer → Result ControlRound FrontFault
    → Type 0
EndsWith held unsent unmade (Ok Ended) =
    (is_nothing held ≡ true) × (unsent ≡ []) × (is_said unmade ≡ true)
EndsWith held unsent unmade (Err fault.BadLength) = ⊥
EndsWith held unsent unmade (Err fault.Ended) = IsInLine held.kept × (is_nothing held ≡ false)
EndsWith held unsent unmade (Err (fault.Undecodable f)) = ⊥
EndsWith held unsent unmade other = Unit {0}

-- how much passed: bytes in, bytes out, and lines
abbrev pub amount_passed : Passed → ℕ
amount_passed p = length p.came + length p.went + p.taken

-- A round that goes on did something, and one that waits did nothing. A slice that was made may be
-- one that nothing is written of yet.
abbrev pub Moves : Passed → Passed → Result ControlRound FrontFault → Type 0
Moves before after (Ok GoesOn) = amount_passed before < amount_passed after
Moves before after (Ok (Took wish)) = amount_passed before < amount_passed after
Moves before after (Ok Waits) = after ≡ before
Moves before after other = Unit {0}

-- where memory or the store stopped it, this holds
abbrev pub IfRefused : {X : Type 0} → Result X FrontFault → Type 0 → Type 0
IfRefused (Err Memory) p = p
IfRefused (Err Store) p = p
IfRefused other p = Unit {0}

module _ (may_give : ℕ → Type 0) (serving : Serving) (old : Tables) (left : Left) where
  -- Nothing was done; and behind any acts the connection goes on to follow them.
  pub record MovesOn (before after : Passed) : Type 0 where
    pub tables : left.tables ≡ old
    pub stop : LeavesAll left old []
    pub follows : (k : ℕ) (t : Tables) (acts : List Act) → old ≡ behind_acts t acts →
        FollowsLog k t acts before → FollowsLog k t acts after

  -- A line was taken, at a moment that may be given, and what it asks was done, which has this
  -- wish; and behind any acts the connection goes on to follow them and this one.
  pub record AsksOne (wish : Wish) (before after : Passed) : Type 0 where
    pub asked : Option Question
    pub moment : ℕ
    pub given : may_give moment
    pub shows : Shows serving asked
    pub wishes : wish_of asked ≡ wish
    pub tables : left.tables ≡ tables_behind old asked
    pub stop : LeavesAll left old (events_asked old asked)
    pub follows : (k : ℕ) (t : Tables) (acts : List Act) → old ≡ behind_acts t acts →
        FollowsLog k t acts before →
        (line : List ℕ) × FollowsLog k t (acts ++ asked_by k moment line asked ∷ []) after

  -- a round, by what it tells
  abbrev pub Goes : Passed → Passed → Result ControlRound FrontFault → Type 0
  Goes before after (Ok (Took wish)) = AsksOne wish before after
  Goes before after other = MovesOn before after
