-- What a host took that is no message of a group: what control connections ask, for example.
use Rattle.std.specs.Prelude.{◌≡◌, ◌≤◌, ◌++◌, List, length, Result, Ok, Err}
use Rattle.acq_book.specs.declared.book_fault.BookFault.{BookFault}
use Rattle.acq_core.specs.declared.event.Event.{Event}
use Rattle.acq_core.specs.Tables.{Tables, tables_after}
use Rattle.acq_front.specs.Stops.{Left, LeavesAll, LeavesSome}

-- the host took some events, of which this holds, and a stop leaves them
pub record Reaches (old : Tables) (left : Left) (such : List Event → Type 0) : Type 0 where
  pub events : List Event
  pub are_such : such events
  pub tables : left.tables ≡ tables_after old events
  pub stop : LeavesAll left old events

-- So it is, but memory or the store refused a call, perhaps with one more event in hand, or taken
-- and not told. A stop leaves the events that were taken, or these and the one in hand.
pub record ReachesSome (old : Tables) (left : Left) (such : List Event → Type 0) : Type 0 where
  pub events : List Event
  pub are_such : such events
  pub untold : List Event
  pub in_hand : List Event
  pub at_most_one : length (untold ++ in_hand) ≤ 1
  pub tables : left.is_open → left.tables ≡ tables_after old (events ++ untold)
  pub stop : LeavesSome left old (events ++ untold) in_hand

-- what the host took, by whether a call was refused
abbrev pub ReachesBy : {X : Type 0} → Tables → Left → (List Event → Type 0) →
    Result X BookFault → Type 0
ReachesBy old left such (Ok x) = Reaches old left such
ReachesBy old left such (Err fault) = ReachesSome old left such
