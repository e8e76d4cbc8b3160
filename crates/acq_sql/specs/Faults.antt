-- What an error of the database is to a book that is open.
use Rattle.std.specs.Prelude.{◌≡◌, ◌≢◌, ◌≤◌, ℕ, Bool, true, ◌+◌, ◌-◌, ◌^◌, min, Result, Ok, Err}
use Rattle.std.specs.Prelude.{IfOk, IfErr, is_ok}
use Rattle.sqlite.specs.declared.error.Error.{Error}
use Rattle.sqlite.specs.declared.error.Error.TheVariants.{SqliteFailure}
use Rattle.sqlite.specs.declared.error.ErrorCode.TheVariants as code
use Rattle.acq_book.specs.declared.book_fault.BookFault.{BookFault}
use Rattle.acq_book.specs.declared.book_fault.BookFault.TheVariants as book
use Rattle.acq_book.specs.Promise.{CountsFault, HasRisen}

abbrev pub book_fault_of : Error → BookFault
book_fault_of (SqliteFailure code.OutOfMemory) = book.Memory
book_fault_of e = book.Store

-- of so many failures of the store, how many there are after a call; the greatest count stays
abbrev pub failures_after : {T : Type 0} → ℕ → Result T BookFault → ℕ
failures_after n (Ok x) = n
failures_after n (Err book.Memory) = n
failures_after n (Err book.Store) = min (n + 1) (2 ^ 64 - 1)

-- what a book answers where its database answered this, and how many failures it has counted then
pub record IsTold {T : Type 0} (answer : Result T Error) (result : Result T BookFault)
    (failures later : ℕ) : Type 0 where
  pub same : IfOk answer (λ x. result ≡ Ok x)
  pub fault : IfErr answer (λ e. result ≡ Err (book_fault_of e))
  pub succeeds : is_ok result ≡ is_ok answer
  pub count : later ≡ failures_after failures result
  pub store : CountsFault result failures later
  pub rise : failures ≤ later

-- where it ended its transaction, and neither memory nor the size of a row was its cause, the store
-- has met one fault more
abbrev pub IsTheStores : Bool → ℕ → ℕ → Error → Type 0
IsTheStores has_ended faults later e =
    has_ended ≡ true → e ≢ SqliteFailure code.OutOfMemory → e ≢ SqliteFailure code.TooBig
    → HasRisen faults later
