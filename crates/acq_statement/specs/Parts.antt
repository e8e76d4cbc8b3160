-- Parts of a text, which are put one after another over a book.
use Rattle.std.specs.Prelude.{ℕ, Bool, List, Result, Ok, Err}
use Rattle.std.specs.Prelude.{is_ok}
use Rattle.acq_core.specs.Tables.{Tables}
use Rattle.acq_book.specs.declared.book.Book.{Ghosts}
use Rattle.acq_book.specs.declared.book_fault.BookFault.{BookFault}
use Rattle.acq_book.specs.Calls.{Looks}
use Rattle.acq_book.specs.Promise.{CountsFault}
use Rattle.acq_reports.specs.declared.report.Report.{Report}
use Rattle.acq_reports.specs.Writing.{PutsLines}

-- A part that depends on the tables was put, or some of it; some text was in any case. More may
-- follow after Ok true. The book was looked at, and nothing else was done to it.
pub record PutsPart {S K : Type 0} (book : Ghosts S) (sent : K → List ℕ) (failures : K → ℕ)
    (text : Tables → List ℕ) (first last : S) (old new : Report K)
    (result : Result Bool BookFault) : Type 0 where
  pub puts : book.is_honest last → book.is_open first →
      PutsLines sent failures (text (book.tables first)) old new result
  pub any : (other : List ℕ) × PutsLines sent failures other old new result
  pub looks : Looks book first last (is_ok result)
  pub store : CountsFault result (book.failures first) (book.failures last)

-- the result without what may follow
abbrev pub walk_of : Result Bool BookFault → Result (Unit {0}) BookFault
walk_of (Ok more) = Ok tt
walk_of (Err fault) = Err fault
