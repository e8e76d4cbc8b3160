-- What a host took in the rounds of connections that are served at once.
use Rattle.std.specs.Prelude.{◌≡◌, [], Option, Some, Result, Ok, Err}
use Rattle.acq_book.specs.declared.book_fault.BookFault as book
use Rattle.acq_core.specs.Tables.{Tables}
use Rattle.acq_front.specs.Stops.{Left, LeavesAll}
use Rattle.acq_front.specs.declared.front_fault.FrontFault.{FrontFault}
use Rattle.acq_front.specs.declared.front_fault.FrontFault.TheVariants.{Memory, Store}
use Rattle.acq_reports.specs.declared.report_fault.ReportFault as report

-- a connection that ended, if it did, ended for no fault of the store
abbrev pub IsNotStores : Option (Result (Unit {0}) FrontFault) → Type 0
IsNotStores (Some (Err Store)) = ⊥
IsNotStores other = Unit {0}

-- what the end of a connection is for the program: want of memory and the store's fault end it
abbrev pub going_on : Result (Unit {0}) FrontFault → Result (Unit {0}) book.BookFault
going_on (Err Memory) = Err book.TheVariants.Memory
going_on (Err Store) = Err book.TheVariants.Store
going_on other = Ok tt

-- The tables were looked at, and are as they were; where the look was refused, they are wherever
-- the book is open.
pub record Looked (old : Tables) (left : Left) : Type 0 where
  pub tables : left.is_open → left.tables ≡ old
  pub stop : LeavesAll left old []

-- What else there is to fail where the request is looked at that waits the longest is the memory
-- that its name is written to.
abbrev pub of_looked : report.ReportFault → book.BookFault
of_looked report.TheVariants.Store = book.TheVariants.Store
of_looked other = book.TheVariants.Memory
