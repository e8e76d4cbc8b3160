-- What applying a change to a book in SQL makes of its tables.
use Rattle.std.specs.Prelude.{◌≡◌, false, Option, IfSome, Result}
use Rattle.sqlite.specs.declared.error.Error.{Error}
use Rattle.sqlite.specs.State.{State, HasCleanDisk}
use Rattle.acq_core.specs.declared.change.Change.{Change}
use Rattle.acq_core.specs.declared.change.Change.TheVariants as change
use Rattle.acq_core.specs.Pasts.{HasPast}
use Rattle.acq_core.specs.Tables.{Tables, after}
use Rattle.acq_core.specs.declared.posting.Posting.{Posting}
use Rattle.acq_core.specs.declared.request.Request.{Request}
use Rattle.acq_book.specs.Fits.{Fits, HasRoom, IsPostedBy}
use Rattle.acq_sql_changes.specs.Changed.{ChangesWhole}
use Rattle.acq_sql_changes.specs.Transactions.{ChangesInside}
use Rattle.acq_sql_writes.specs.Written.{IsShortEnd}

-- the change fits the tables, and these are a book's
abbrev pub Suits : Change → Tables → Type 0
Suits change t = Fits t change × HasPast t

-- a request and its posting, if it makes one, fit them
abbrev pub SuitsPosted : Request → Option Posting → Tables → Type 0
SuitsPosted row posting t =
    Fits t (change.AddRequest row) × HasRoom t posting × IfSome posting (IsPostedBy row)

-- where the change suits, it is made whole or not at all
abbrev pub Applies : {T : Type 0} → State → State → Result T Error → Change → Type 0
Applies old new result change = ChangesWhole old new result (Suits change) (λ t. after t change)

-- the same inside a transaction, of which nothing is committed
abbrev pub AppliesInside : {T : Type 0} → State → State → Result T Error → Change → Type 0
AppliesInside old new result change =
    ChangesInside old new result (Suits change) (λ t. after t change)

-- outside a transaction it ends outside one
abbrev pub EndsOutside : State → State → Type 0
EndsOutside old new =
    HasCleanDisk new → old.in_transaction ≡ false → new.in_transaction ≡ false

-- a column can keep the end of the hold that the change writes
abbrev pub HasShortEnd : Change → Type 0
HasShortEnd (change.AddRequest row) = IsShortEnd row.hold_end
HasShortEnd (change.Answered key status reply hold_end posting) = IsShortEnd hold_end
HasShortEnd (change.Follow row original remains posting) = IsShortEnd row.hold_end
HasShortEnd (change.Reconciled row reconciliation) = IsShortEnd row.hold_end
HasShortEnd change = Unit
