-- How a turn goes that takes a line.
use Rattle.std.proofs.Common.{◌≡◌, ◌+◌, ◌++◌, ℕ, true, List, Option, Ok, sym}
use Rattle.acq_book.specs.declared.book.Book.{Ghosts}
use Rattle.acq_host.proofs.Runs.{LeavesTables}
use Rattle.acq_front.specs.Stops.{left_of}
use Rattle.acq_status.specs.declared.serving.Serving.{Serving}
use Rattle.acq_control.specs.declared.question.Question.{Question}
use Rattle.acq_control.specs.Answers.{answer_of}
use Rattle.acq_control.specs.Doing.{Does}
use Rattle.acq_control.specs.Ends.{BeginsWithAsked, End, Steps}
use Rattle.acq_control.specs.Held.{Held, Holds, IsTaken, TakesFront}
use Rattle.acq_control.specs.Questions.{Asks, Shows, wish_of}
use Rattle.acq_control.specs.Unmade.{MayBeUnmade, unmade_at}
use Rattle.acq_control.specs.declared.control_turn.ControlTurn.TheVariants.{Took}
use Rattle.acq_control.specs.declared.taken_line.TakenLine.{TakenLine}
use Rattle.acq_control.specs.declared.wish.Wish.{Wish}
use Rattle.acq_control.proofs.Doing.{done_stop, done_tables}

-- the line that was taken asks this
pub taken_asks : (before after : Held) (taken : TakenLine) (moment : ℕ) (asked : Option Question) →
    ((bytes : List ℕ) → Holds before bytes → TakesFront before after taken bytes) →
    ((line : List ℕ) → IsTaken taken line → Asks moment line asked) →
    (bytes : List ℕ) → Holds before bytes → BeginsWithAsked after moment asked bytes
taken_asks before after taken moment asked takes asks bytes h =
    let front = takes bytes h in
    record {
      line = front.line;
      rest = front.rest;
      begins = front.begins;
      holds = front.holds;
      asks = asks front.line front.is;
    }

module _ {S : Type 0} (may_give : ℕ → Type 0) (serving : Serving) (book : Ghosts S) (a c : S)
    (honest : book.is_honest c) (opened : book.is_open a) (settled : LeavesTables book)
    (stored : (s : S) → book.is_open s → book.leaves_books s) (before after : End) where
  pub line_taken : (moment : ℕ) (asked : Option Question) (wish : Wish) →
      ((bytes : List ℕ) → Holds before.held bytes →
      BeginsWithAsked after.held moment asked bytes) →
      may_give moment → Shows serving asked →
      Does book a c asked true →
      (MayBeUnmade (book.tables a) before.unmade →
      after.unsent ++ unmade_at (book.tables c) after.unmade
      ≡ answer_of (book.tables a) after.taken asked) →
      (MayBeUnmade (book.tables a) before.unmade → MayBeUnmade (book.tables c) after.unmade) →
      after.taken ≡ before.taken + 1 → wish ≡ wish_of asked →
      Steps may_give serving (book.tables a) (left_of book c) before after (Ok (Took wish))
  line_taken moment asked wish takes given shows does answers unmade count is = (
    asked,
    record {
      moment = moment;
      given = given;
      takes = takes;
      shows = shows;
      tables = done_tables book a c honest opened asked does;
      stop = done_stop book a c honest opened settled stored asked does;
      answers = answers;
      unmade = unmade;
      count = count;
    },
    sym is,
  )
