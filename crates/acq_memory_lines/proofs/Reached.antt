-- One event that is taken between two groups.
use Rattle.std.proofs.Common.{true, false, [], ◌∷◌, refl, lit≤}
use Rattle.acq_core.specs.declared.event.Event.{Event}
use Rattle.acq_core.specs.Arrivals.{arrival_of}
use Rattle.acq_core.specs.Tables.{step_tables}
use Rattle.acq_book.specs.declared.book.Book.{Ghosts}
use Rattle.acq_book.specs.Calls.{Makes}
use Rattle.acq_host.proofs.Runs.{LeavesTables}
use Rattle.acq_front.specs.Stops.{left_of}
use Rattle.acq_front.proofs.StopsLeave.{none_stop, refused_stop, taken_stop}
use Rattle.acq_rounds.specs.Reaching.{Reaches, ReachesSome}
use Rattle.acq_rounds.specs.Runs.{OthersGoOn}
use Rattle.acq_memory_lines.specs.Gates.{follow}

module _ {S : Type 0} (book : Ghosts S) (a c : S) (e : Event)
    (honest : book.is_honest c) (opened : book.is_open a) where
  -- it was taken
  pub reached : Makes book a c true (step_tables (book.tables a) (arrival_of e)) →
      Reaches (book.tables a) (left_of book c) (OthersGoOn follow (book.tables a) tt tt)
  reached makes = record {
    events = e ∷ [];
    are_such = λ t steps is f. tt;
    tables = makes.made refl opened (makes.stays_open refl honest opened);
    stop = taken_stop book a c e honest opened makes;
  }

  -- it was refused
  pub reached_none : LeavesTables book →
      Makes book a c false (step_tables (book.tables a) (arrival_of e)) →
      ReachesSome (book.tables a) (left_of book c) (OthersGoOn follow (book.tables a) tt tt)
  reached_none settled makes = record {
    events = [];
    are_such = λ t steps is f. tt;
    untold = [];
    in_hand = e ∷ [];
    at_most_one = lit≤ tt;
    tables = λ still. makes.unmade refl opened still;
    stop = refused_stop book a c e honest opened settled makes;
  }

-- none was asked for
pub reached_quietly : {S : Type 0} (book : Ghosts S) (a : S) → LeavesTables book →
    ((s : S) → book.is_open s → book.leaves_books s) → book.is_open a →
    Reaches (book.tables a) (left_of book a) (OthersGoOn follow (book.tables a) tt tt)
reached_quietly book a settled stored opened = record {
  events = [];
  are_such = λ t steps is f. tt;
  tables = refl;
  stop = none_stop book settled stored a opened;
}
