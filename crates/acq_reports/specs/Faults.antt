-- The faults' numbers and texts, what a fault of the book is, and how many writes failed.
use Rattle.std.specs.Prelude.{◌≡◌, ◌⊎◌, ℕ, List, ◌++◌, Bool, true, false, codes, Result, Ok, Err}
use Rattle.std.specs.Fmt.{decimal}
use Rattle.acq_book.specs.declared.book.Book.{Ghosts}
use Rattle.acq_book.specs.declared.book_fault.BookFault as book
use Rattle.acq_book.specs.Promise.{HasRisen}
use Rattle.acq_reports.specs.declared.report_fault.ReportFault.{ReportFault}
use Rattle.acq_reports.specs.declared.report_fault.ReportFault.TheVariants.{Memory, Store}
use Rattle.acq_reports.specs.declared.report_fault.ReportFault.TheVariants.{NoSuchMerchant, Write}
use Rattle.acq_reports.specs.declared.report_fault.ReportFault.TheVariants.{DayNotOver}
use Rattle.acq_reports.specs.declared.report_fault.ReportFault.TheVariants.{StillPending}

abbrev pub number_of : ReportFault → ℕ
number_of Memory = 1
number_of Store = 2
number_of NoSuchMerchant = 37
number_of (Write n) = 54
number_of DayNotOver = 60
number_of (StillPending n) = 61

-- the fault as printed lines have it: its number, its name and its value
abbrev pub text_of : ReportFault → List ℕ
text_of Memory = codes "1 Memory"
text_of Store = codes "2 Store"
text_of NoSuchMerchant = codes "37 NoSuchMerchant"
text_of (Write n) = codes "54 Write " ++ decimal n
text_of DayNotOver = codes "60 DayNotOver"
text_of (StillPending n) = codes "61 StillPending " ++ decimal n

-- what a fault of the book is
abbrev pub of_book : book.BookFault → ReportFault
of_book book.TheVariants.Memory = Memory
of_book book.TheVariants.Store = Store

-- The count of failed calls of the store has risen where a fault of the store is told, and only
-- there.
abbrev pub CountsStore : {T : Type 0} → Result T ReportFault → ℕ → ℕ → Type 0
CountsStore (Err Store) old new = HasRisen old new
CountsStore _ old new = new ≡ old

-- a call of the store failed, or the book doesn't add up, which no book does that is honest and was
-- open
abbrev pub StoreFailed : {S : Type 0} → Ghosts S → S → S → Type 0
StoreFailed book old new =
    HasRisen (book.failures old) (book.failures new) ⊎ ¬ (book.is_honest new × book.is_open old)

-- A fault of the store is told of a book that doesn't add up, too. Unless it is told, no call of
-- the store failed.
abbrev pub TellsStore : {S T : Type 0} → Ghosts S → S → S → Result T ReportFault → Type 0
TellsStore book old new (Err Store) = StoreFailed book old new
TellsStore book old new _ = book.failures new ≡ book.failures old

-- where a book tells a fault of its store this holds, and else the count of failed calls stays
abbrev pub TellsFault : {T : Type 0} → Result T book.BookFault → Type 0 → ℕ → ℕ → Type 0
TellsFault (Ok x) failed old new = new ≡ old
TellsFault (Err book.TheVariants.Memory) failed old new = new ≡ old
TellsFault (Err book.TheVariants.Store) failed old new = failed

-- how many writes failed
abbrev pub writes_failed : ReportFault → ℕ
writes_failed (Write n) = 1
writes_failed _ = 0

abbrev pub failed_writes : {T : Type 0} → Result T ReportFault → ℕ
failed_writes (Ok x) = 0
failed_writes (Err fault) = writes_failed fault

-- neither memory nor the store failed
abbrev pub is_settled : {T : Type 0} → Result T ReportFault → Bool
is_settled (Err Memory) = false
is_settled (Err Store) = false
is_settled _ = true
