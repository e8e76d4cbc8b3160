-- What is left of a host's book when a call ends, and what a stop at any moment may leave of it.
use Rattle.std.specs.Prelude.{◌≡◌, ◌⊎◌, ◌++◌, List}
use Rattle.acq_core.specs.declared.event.Event.{Event}
use Rattle.acq_core.specs.Tables.{Tables, tables_after}
use Rattle.acq_book.specs.declared.book.Book.{Ghosts}

-- what is left of a book
pub record Left : Type 1 where
  pub is_open : Type 0
  pub tables : Tables
  -- the tables that a stop may leave, and that each time it leaves a book that stores them
  pub may_leave : Tables → Type 0
  pub leaves_books : Type 0

-- so of this book
abbrev pub left_of : {S : Type 0} → Ghosts S → S → Left
left_of book s = record {
  is_open = book.is_open s;
  tables = book.tables s;
  may_leave = book.may_leave s;
  leaves_books = book.leaves_books s;
}

-- of a book that is open at these tables, and in memory
abbrev pub open_at : Tables → Left
open_at t = record {
  is_open = Unit {0};
  tables = t;
  may_leave = λ left. left ≡ t;
  leaves_books = Unit {0};
}

-- Whatever tables a stop may leave are such, and it leaves a book that stores them.
pub record StopLeaves (left : Left) (such : Tables → Type 0) : Type 0 where
  pub tables : (t : Tables) → left.may_leave t → such t
  pub stored : left.leaves_books

-- a stop leaves the tables after these events
abbrev pub LeavesAll : Left → Tables → List Event → Type 0
LeavesAll left old events = StopLeaves left (λ t. t ≡ tables_after old events)

-- a stop leaves the tables after these events, or after these and what was in hand
abbrev pub LeavesSome : Left → Tables → List Event → (in_hand : List Event) → Type 0
LeavesSome left old events in_hand =
    StopLeaves left
    (λ t. (t ≡ tables_after old events) ⊎ (t ≡ tables_after old (events ++ in_hand)))
