-- What one part reaches, and the next one from there, both reach.
use Rattle.std.proofs.Common.{◌≡◌, ℕ, List, [], ◌++◌, ◌∙◌, ap, sym, refl, inl, arith, subst}
use Rattle.std.proofs.Common.{Option, Some, None, Result, Ok, Err, Bool, append-nil}
use Rattle.std.proofs.Common.{append_assoc}
use Rattle.acq_book.specs.Calls.{Looks}
use Rattle.acq_book.specs.Promise.{CountsFault}
use Rattle.acq_book.specs.declared.book.Book.{Ghosts}
use Rattle.acq_book.specs.declared.book_fault.BookFault as book_fault
use Rattle.acq_core.specs.declared.event.Event.{Event}
use Rattle.acq_core.specs.Tables.{Tables, tables_after}
use Rattle.acq_soundness.proofs.Runs.{tables_after-append}
use Rattle.acq_host.proofs.Runs.{LeavesTables}
use Rattle.acq_reports.specs.Faults.{CountsStore}
use Rattle.acq_reports.specs.declared.report_fault.ReportFault as report
use Rattle.acq_faults.specs.Faults.{TellsStore, of_book}
use Rattle.acq_front.proofs.StopsLeave.{all_behind, some_behind}
use Rattle.acq_front.specs.Stops.{Left, LeavesAll, LeavesSome, left_of}
use Rattle.acq_front.specs.declared.front_fault.FrontFault as ended
use Rattle.acq_control.specs.declared.control_round.ControlRound.{ControlRound}
use Rattle.acq_rounds.specs.Reaching.{Reaches, ReachesSome, ReachesBy}
use Rattle.acq_rounds.specs.Taking.{TellsFault}
use Rattle.acq_rounds.proofs.Together.{tells_on}
use Rattle.acq_controls.specs.Aside.{Aside}
use Rattle.acq_controls.specs.Following.{Stays}
use Rattle.acq_controls.specs.Going.{ReachesIf, TellsIf}
use Rattle.acq_controls.proofs.Staying.{GoesOn, go_go, go_none, go_stay, stay_go}
use Rattle.acq_tcp.specs.Rounds.{IsNotStores, Looked, going_on, of_looked}

-- nothing was taken
pub reaches_none : (left : Left) (a : Aside) → LeavesAll left left.tables [] →
    Reaches left.tables left (GoesOn left.tables a a)
reaches_none left a stop =
    record { events = []; are_such = go_none left.tables a; tables = refl; stop = stop }

module _ (old : Tables) (mid left : Left) (a b c : Aside)
    (one : Reaches old mid (GoesOn old a b)) where
  pub reached_on : Reaches mid.tables left (GoesOn mid.tables b c) →
      Reaches old left (GoesOn old a c)
  reached_on two = record {
    events = one.events ++ two.events;
    are_such = go_go old mid.tables a b c one.events two.events one.tables one.are_such two.are_such;
    tables = two.tables ∙ ap (λ (t : Tables). tables_after t two.events) one.tables
        ∙ sym (tables_after-append old one.events two.events);
    stop = all_behind left old mid.tables one.events one.tables two.events two.stop;
  }

  some_on : ReachesSome mid.tables left (GoesOn mid.tables b c) →
      ReachesSome old left (GoesOn old a c)
  some_on two =
      let same = sym (append_assoc one.events two.events two.untold) in
      record {
        events = one.events ++ two.events;
        are_such = go_go old mid.tables a b c one.events two.events one.tables one.are_such
            two.are_such;
        untold = two.untold;
        in_hand = two.in_hand;
        at_most_one = two.at_most_one;
        tables = λ o. two.tables o
            ∙ ap (λ (t : Tables). tables_after t (two.events ++ two.untold)) one.tables
            ∙ sym (tables_after-append old one.events (two.events ++ two.untold))
            ∙ ap (tables_after old) same;
        stop = subst (λ (l : List Event). LeavesSome left old l two.in_hand) same
            (some_behind left old mid.tables one.events one.tables (two.events ++ two.untold)
            two.in_hand two.stop);
      }

  pub refused_on : (f : book_fault.BookFault) →
      ReachesBy {X = Unit {0}} mid.tables left (GoesOn mid.tables b c) (Err f) →
      ReachesBy {X = Unit {0}} old left (GoesOn old a c) (Err f)
  refused_on f two = some_on two

  -- whether the next part was refused or not
  pub reached_by : (r : Result (Unit {0}) book_fault.BookFault) →
      ReachesBy mid.tables left (GoesOn mid.tables b c) r → ReachesBy old left (GoesOn old a c) r
  reached_by (Ok u) two = reached_on two
  reached_by (Err f) two = some_on two

module _ {such : List Event → Type 0} where
  -- where some were, and none was refused
  pub some_of : (old : Tables) (left : Left) → Reaches old left such → ReachesSome old left such
  some_of old left all =
      let same = sym (append-nil all.events) in
      record {
        events = all.events;
        are_such = all.are_such;
        untold = [];
        in_hand = [];
        at_most_one = omega arith;
        tables = λ o. all.tables ∙ ap (tables_after old) same;
        stop = subst (λ (l : List Event). LeavesSome left old l []) same
            (record { tables = λ t l. inl (all.stop.tables t l); stored = all.stop.stored });
      }

  -- what a round leaves is reached, however the connection ended behind it
  pub reached_still : (r : Option (Result (Unit {0}) ended.FrontFault)) (old : Tables)
      (left : Left) → Reaches old left such → ReachesIf old left such r
  reached_still None old left h = h
  reached_still (Some (Ok u)) old left h = h
  reached_still (Some (Err ended.TheVariants.Memory)) old left h = some_of old left h
  reached_still (Some (Err ended.TheVariants.Store)) old left h = some_of old left h
  reached_still (Some (Err ended.TheVariants.BadLength)) old left h = h
  reached_still (Some (Err ended.TheVariants.Ended)) old left h = h
  reached_still (Some (Err (ended.TheVariants.Undecodable f))) old left h = h
  reached_still (Some (Err ended.TheVariants.Read)) old left h = h
  reached_still (Some (Err (ended.TheVariants.Write n))) old left h = h

-- a fault that is handed on
pub same_fault : (f : ended.FrontFault) (old : Tables) (left : Left) (such : List Event → Type 0) →
    ReachesIf {X = ControlRound} old left such (Some (Err f)) →
    ReachesIf {X = Unit {0}} old left such (Some (Err f))
same_fault ended.TheVariants.Memory old left such h = h
same_fault ended.TheVariants.Store old left such h = h
same_fault ended.TheVariants.BadLength old left such h = h
same_fault ended.TheVariants.Ended old left such h = h
same_fault (ended.TheVariants.Undecodable f) old left such h = h
same_fault ended.TheVariants.Read old left such h = h
same_fault (ended.TheVariants.Write n) old left such h = h

-- control connections that stay behind it
module _ (old : Tables) (left : Left) (a b c : Aside) (stays : Stays b c) where
  reached_stay : Reaches old left (GoesOn old a b) → Reaches old left (GoesOn old a c)
  reached_stay h = record {
    events = h.events;
    are_such = go_stay old a b c h.events h.are_such stays;
    tables = h.tables;
    stop = h.stop;
  }

  some_stay : ReachesSome old left (GoesOn old a b) → ReachesSome old left (GoesOn old a c)
  some_stay h = record {
    events = h.events;
    are_such = go_stay old a b c h.events h.are_such stays;
    untold = h.untold;
    in_hand = h.in_hand;
    at_most_one = h.at_most_one;
    tables = h.tables;
    stop = h.stop;
  }

  -- what the end of a connection is for the program
  pub program_reaches : (r : Result (Unit {0}) ended.FrontFault) →
      ReachesIf old left (GoesOn old a b) (Some r) →
      ReachesBy old left (GoesOn old a c) (going_on r)
  program_reaches (Ok u) h = reached_stay h
  program_reaches (Err ended.TheVariants.Memory) h = some_stay h
  program_reaches (Err ended.TheVariants.Store) h = some_stay h
  program_reaches (Err ended.TheVariants.BadLength) h = reached_stay h
  program_reaches (Err ended.TheVariants.Ended) h = reached_stay h
  program_reaches (Err (ended.TheVariants.Undecodable f)) h = reached_stay h
  program_reaches (Err ended.TheVariants.Read) h = reached_stay h
  program_reaches (Err (ended.TheVariants.Write n)) h = reached_stay h

-- and before it
pub stay_reaches : (old : Tables) (left : Left) (a b c : Aside)
    (r : Result (Unit {0}) book_fault.BookFault) → Stays a b →
    ReachesBy old left (GoesOn old b c) r → ReachesBy old left (GoesOn old a c) r
stay_reaches old left a b c (Ok u) stays h = record {
  events = h.events;
  are_such = stay_go old a b c h.events stays h.are_such;
  tables = h.tables;
  stop = h.stop;
}
stay_reaches old left a b c (Err f) stays h = record {
  events = h.events;
  are_such = stay_go old a b c h.events stays h.are_such;
  untold = h.untold;
  in_hand = h.in_hand;
  at_most_one = h.at_most_one;
  tables = h.tables;
  stop = h.stop;
}

-- ---- the tables were looked at

module _ {S : Type 0} (it : Ghosts S) (a c : S) (honest : it.is_honest c) (opened : it.is_open a)
    (settled : LeavesTables it) (stored : (s : S) → it.is_open s → it.leaves_books s) where
  looked_stop : (done : Bool) → Looks it a c done → LeavesAll (left_of it c) (it.tables a) []
  looked_stop done looks = record {
    tables = λ t l. settled a opened t (looks.leaves honest t l);
    stored = looks.books honest (stored a opened);
  }

  -- whether it was refused or not
  pub looked_at : (done : Bool) → Looks it a c done → Looked (it.tables a) (left_of it c)
  looked_at done looks =
      record { tables = λ is. looks.same is; stop = looked_stop done looks }

-- a look that was refused
pub looked_some : (old : Tables) (left : Left) (a : Aside) → Looked old left →
    ReachesSome old left (GoesOn old a a)
looked_some old left a looked = record {
  events = [];
  are_such = go_none old a;
  untold = [];
  in_hand = [];
  at_most_one = omega arith;
  tables = looked.tables;
  stop = record { tables = λ t l. inl (looked.stop.tables t l); stored = looked.stop.stored };
}

-- one look behind another
pub looked_twice : (old : Tables) (mid left : Left) → mid.tables ≡ old → Looked mid.tables left →
    Looked old left
looked_twice old mid left same two = subst (λ (t : Tables). Looked t left) same two

-- behind a look
pub looked_then : (old mid : Tables) (left : Left) (a b : Aside)
    (r : Result (Unit {0}) book_fault.BookFault) → mid ≡ old →
    ReachesBy mid left (GoesOn mid a b) r → ReachesBy old left (GoesOn old a b) r
looked_then old mid left a b r same h =
    subst (λ (t : Tables). ReachesBy t left (GoesOn t a b) r) same h

-- what a report that was refused tells of the store
pub tells_report : (f : report.ReportFault) (a c : ℕ) (P : Type 0) →
    CountsStore {T = Unit {0}} (Err f) a c → TellsFault {X = Unit {0}} (Err (of_looked f)) a c P
tells_report report.TheVariants.Memory a c P counts = counts
tells_report report.TheVariants.Store a c P counts = inl counts
tells_report report.TheVariants.NoSuchMerchant a c P counts = counts
tells_report (report.TheVariants.Write n) a c P counts = counts
tells_report report.TheVariants.DayNotOver a c P counts = counts
tells_report (report.TheVariants.StillPending n) a c P counts = counts

-- what a look that was refused tells of the store
pub tells_looked : (X T : Type 0) (f : book_fault.BookFault) (a c : ℕ) (P : Type 0) →
    CountsFault {T = T} (Err f) a c → TellsFault {X = X} (Err f) a c P
tells_looked X T book_fault.TheVariants.Memory a c P counts = counts
tells_looked X T book_fault.TheVariants.Store a c P counts = inl counts

-- what is told behind a part in which nothing failed, with a weaker reason
pub tells_then : (r : Result (Unit {0}) book_fault.BookFault) (P Q : Type 0) {a b : ℕ} (c : ℕ) →
    b ≡ a → (P → Q) → TellsFault r b c P → TellsFault r a c Q
tells_then (Ok x) P Q c same so told = told ∙ same
tells_then (Err f) P Q c same so told =
    tells_on (Unit {0}) (Unit {0}) f P Q c same refl so told

-- what is told of the book's store is told of the host's
pub tells_host : (f : book_fault.BookFault) (a c : ℕ) (P : Type 0) →
    TellsFault {X = Unit {0}} (Err f) a c P → TellsStore (Err (of_book f)) a c P
tells_host book_fault.TheVariants.Memory a c P told = told
tells_host book_fault.TheVariants.Store a c P told = told

-- ---- what is told of the store

-- it took too long
pub tells_late : (r : Option (Result (Unit {0}) ended.FrontFault)) (P : Type 0) {a b : ℕ} → b ≡ a →
    IsNotStores r → TellsIf r a b P
tells_late None P same not = same
tells_late (Some (Ok u)) P same not = same
tells_late (Some (Err ended.TheVariants.Store)) P same not = absurd not
tells_late (Some (Err ended.TheVariants.Memory)) P same not = same
tells_late (Some (Err ended.TheVariants.BadLength)) P same not = same
tells_late (Some (Err ended.TheVariants.Ended)) P same not = same
tells_late (Some (Err (ended.TheVariants.Undecodable f))) P same not = same
tells_late (Some (Err ended.TheVariants.Read)) P same not = same
tells_late (Some (Err (ended.TheVariants.Write n))) P same not = same
