-- What a host does for a question.
use Rattle.std.specs.Prelude.{◌≡◌, ◌≢◌, ◌==◌, ℕ, Bool, true, false, Option, Some, Result}
use Rattle.std.specs.Prelude.{Err}
use Rattle.acq_core.specs.declared.event.Event.{Event}
use Rattle.acq_core.specs.declared.event.Event.TheVariants as event
use Rattle.acq_core.specs.Arrivals.{arrival_of}
use Rattle.acq_core.specs.Tables.{step_tables}
use Rattle.acq_book.specs.Calls.{Looks, Makes}
use Rattle.acq_book.specs.declared.book.Book.{Ghosts}
use Rattle.acq_book.specs.declared.book_fault.BookFault.{BookFault}
use Rattle.acq_book.specs.declared.book_fault.BookFault.TheVariants.{Store}
use Rattle.acq_reports.specs.Faults.{StoreFailed, is_settled}
use Rattle.acq_reports.specs.declared.report_fault.ReportFault as report
use Rattle.acq_control.specs.declared.question.Question.{Question}
use Rattle.acq_control.specs.declared.question.Question.TheVariants as question

-- an event is taken, or is not
abbrev pub Takes : {S : Type 0} → Ghosts S → S → S → Event → Bool → Type 0
Takes book old new event done =
    Makes book old new done (step_tables (book.tables old) (arrival_of event))

-- an event is taken if this is so; else the tables are looked at
abbrev pub TakesIf : {S : Type 0} → Ghosts S → S → S → Event → Bool → Bool → Type 0
TakesIf book old new event true done = Takes book old new event done
TakesIf book old new event false done = Looks book old new done

-- The business day is ended, or the tables are looked at; of an honest book that is open it is
-- ended if it is this one, and only then.
abbrev pub Ends : {S : Type 0} → Ghosts S → S → S → (day moment : ℕ) → Bool → Type 0
Ends book old new day moment done =
    (ends : Bool) × TakesIf book old new (event.Cutover moment) ends done ×
    (done ≡ true → book.is_honest new → book.is_open old → ends ≡ ((book.tables old).day == day))

-- an event is taken, or the day's end where it is asked for; for any other question the tables are
-- looked at
abbrev pub Does : {S : Type 0} → Ghosts S → S → S → Option Question → Bool → Type 0
Does book old new (Some (question.Event event)) done = Takes book old new event done
Does book old new (Some (question.End day moment)) done = Ends book old new day moment done
Does book old new other done = Looks book old new done

-- so it is, and perhaps not to the end
abbrev pub DoesSome : {S : Type 0} → Ghosts S → S → S → Option Question → Type 0
DoesSome book old new asked = (done : Bool) × Does book old new asked done

-- the text was refused for what was asked, and neither for memory nor by the store
abbrev pub IsRefusal : report.ReportFault → Type 0
IsRefusal report.TheVariants.Memory = ⊥
IsRefusal report.TheVariants.Store = ⊥
IsRefusal (report.TheVariants.Write n) = ⊥
IsRefusal other = Unit {0}

-- neither memory nor the store refused a text
abbrev pub IsSettled : Result (Unit {0}) report.ReportFault → Type 0
IsSettled made = is_settled made ≡ true

-- the store's fault is told exactly where the text was refused for it
abbrev pub TellsAs : Result (Unit {0}) BookFault → Result (Unit {0}) report.ReportFault → Type 0
TellsAs (Err Store) made = made ≡ Err report.TheVariants.Store
TellsAs other made = made ≢ Err report.TheVariants.Store

-- A fault of the store is told where a call of it failed, or of a book that doesn't add up. Unless
-- it is told, no call of the store failed.
abbrev pub TellsStore : {S T : Type 0} → Ghosts S → S → S → Result T BookFault → Type 0
TellsStore book old new (Err Store) = StoreFailed book old new
TellsStore book old new other = book.failures new ≡ book.failures old
