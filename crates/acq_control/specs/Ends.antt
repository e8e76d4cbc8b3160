-- One end of a control connection, a turn at a time.
use Rattle.std.specs.Prelude.{◌≡◌, ◌+◌, ◌≤◌, ◌++◌, ℕ, List, [], length, drop}
use Rattle.std.specs.Prelude.{Option, Result, Ok, Err}
use Rattle.acq_link.specs.MemorySink.{sent_of}
use Rattle.acq_core.specs.declared.event.Event.{Event}
use Rattle.acq_core.specs.Tables.{Tables, tables_after}
use Rattle.acq_front.specs.Stops.{Left, LeavesAll, LeavesSome}
use Rattle.acq_book.specs.declared.book_fault.BookFault.{BookFault}
use Rattle.acq_control.specs.Lines.{BeginsWithLine, IsInLine}
use Rattle.acq_control.specs.Held.{Held, Holds}
use Rattle.acq_status.specs.declared.serving.Serving.{Serving}
use Rattle.acq_control.specs.Questions.{Asks, Shows, wish_of}
use Rattle.acq_control.specs.Answers.{answer_of, events_asked, tables_behind}
use Rattle.acq_control.specs.Unmade.{MayBeUnmade, unmade_at}
use Rattle.acq_control.specs.declared.control_conversation.ControlConversation.{ControlConversation}
use Rattle.acq_control.specs.declared.control_turn.ControlTurn.{ControlTurn}
use Rattle.acq_control.specs.declared.control_turn.ControlTurn.TheVariants.{Waits, Took}
use Rattle.acq_control.specs.declared.control_turn.ControlTurn.TheVariants.{Prepares}
use Rattle.acq_control.specs.declared.question.Question.{Question}
use Rattle.acq_control.specs.declared.unmade_answer.UnmadeAnswer.{UnmadeAnswer}

-- what came and belongs to no line yet
abbrev pub held_of : ControlConversation → Held
held_of c = c.input

-- what of the answer is made and still to be written
abbrev pub unsent_of : ControlConversation → List ℕ
unsent_of c = drop c.gone (sent_of c.answer)

-- how many bytes of that were written
abbrev pub gone_of : ControlConversation → ℕ
gone_of c = c.gone

-- what of it is still to be made, before more is to be written
abbrev pub unmade_of : ControlConversation → Option UnmadeAnswer
unmade_of c = c.unmade

-- how many lines were taken
abbrev pub taken_of : ControlConversation → ℕ
taken_of c = c.taken

-- one end as it stands
pub record End : Type 0 where
  pub held : Held
  pub unsent : List ℕ
  pub unmade : Option UnmadeAnswer
  pub taken : ℕ

abbrev pub end_of : ControlConversation → End
end_of c = record {
  held = held_of c;
  unsent = unsent_of c;
  unmade = unmade_of c;
  taken = taken_of c;
}

-- What came begins with a line, which asks this at this moment, and behind it stands what is held.
pub record BeginsWithAsked (after : Held) (moment : ℕ) (asked : Option Question) (bytes : List ℕ)
    : Type 0 where
  pub line : List ℕ
  pub rest : List ℕ
  pub begins : BeginsWithLine bytes line rest
  pub holds : Holds after rest
  pub asks : Asks moment line asked

-- Memory or the store refused a call: an event was taken, or was in hand and was not, or there was
-- none. A stop leaves the tables behind what was taken, or behind that and what was in hand.
pub record RefusesLine (old : Tables) (left : Left) : Type 0 where
  pub taken : List Event
  pub in_hand : List Event
  pub at_most_one : length (taken ++ in_hand) ≤ 1
  pub tables : left.is_open → left.tables ≡ tables_after old taken
  pub stop : LeavesSome left old taken in_hand

-- A slice was made: what is to be written now, and behind it what is then still to be made, is
-- what was still to be made.
pub record MakesSlice (old : Tables) (left : Left) (before after : End) : Type 0 where
  pub tables : left.tables ≡ old
  pub stop : LeavesAll left old []
  pub held : after.held ≡ before.held
  pub taken : after.taken ≡ before.taken
  pub rest : MayBeUnmade old before.unmade →
      after.unsent ++ unmade_at old after.unmade ≡ unmade_at old before.unmade
  pub unmade : MayBeUnmade old before.unmade → MayBeUnmade old after.unmade

-- Rows are to be gone over for the next line, which isn't taken yet; nothing else was done.
pub record Begins (before after : End) : Type 0 where
  pub held : after.held ≡ before.held
  pub unsent : after.unsent ≡ before.unsent
  pub taken : after.taken ≡ before.taken
  pub rest : (t : Tables) → unmade_at t after.unmade ≡ unmade_at t before.unmade
  pub unmade : (t : Tables) → MayBeUnmade t after.unmade

module _ (may_give : ℕ → Type 0) (serving : Serving) (old : Tables) (left : Left) where
  -- nothing was taken, and a stop leaves the tables as they are
  pub record WaitsOn (before after : End) : Type 0 where
    pub tables : left.tables ≡ old
    pub stop : LeavesAll left old []
    pub same : after ≡ before

  -- The next line was taken, whatever stood in it that wasn't kept, at a moment that may be given;
  -- what it asks was done, and what is to be written is what is said to it.
  pub record TakesLine (before after : End) (asked : Option Question) : Type 0 where
    pub moment : ℕ
    pub given : may_give moment
    pub takes : (bytes : List ℕ) → Holds before.held bytes →
        BeginsWithAsked after.held moment asked bytes
    pub shows : Shows serving asked
    pub tables : left.tables ≡ tables_behind old asked
    pub stop : LeavesAll left old (events_asked old asked)
    pub answers : MayBeUnmade old before.unmade →
        after.unsent ++ unmade_at left.tables after.unmade ≡ answer_of old after.taken asked
    pub unmade : MayBeUnmade old before.unmade → MayBeUnmade left.tables after.unmade
    pub count : after.taken ≡ before.taken + 1

  -- rows are to be gone over for the next line, and nothing was taken
  pub record PreparesLine (before after : End) : Type 0 where
    pub tables : left.tables ≡ old
    pub stop : LeavesAll left old []
    pub begins : Begins before after

  -- one turn
  abbrev pub Steps : End → End → Result ControlTurn BookFault → Type 0
  Steps before after (Ok Waits) = WaitsOn before after × IsInLine before.held.kept
  Steps before after (Ok Prepares) = PreparesLine before after
  Steps before after (Ok (Took wish)) =
      (asked : Option Question) × TakesLine before after asked × (wish_of asked ≡ wish)
  Steps before after (Err f) = RefusesLine old left
