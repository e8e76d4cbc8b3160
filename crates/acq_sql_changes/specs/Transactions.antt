-- What begins and ends a transaction, and what a change inside one leaves.
use Rattle.std.specs.Prelude.{◌≡◌, Bool, false, Result, OnOk, OnErr, IfErr, IsTrue}
use Rattle.sqlite.specs.declared.error.Error.{Error}
use Rattle.sqlite.specs.State.{State, HasCleanDisk, Survives}
use Rattle.row_lemmas.specs.Excused.{IsExcused}
use Rattle.acq_core.specs.Tables.{Tables}
use Rattle.acq_sql_rows.specs.Standing.{IsAt, IsIn, IsBased}

-- ---- it begins

-- over a book a transaction is begun, which shows what was there
abbrev pub Begins : {T : Type 0} → State → State → Result T Error → Type 0
Begins old new result =
    HasCleanDisk new → (t : Tables) → IsAt old t
    → OnOk result (IsIn new t t × (new.now ≡ old.now))

-- one that wasn't begun leaves the book as it was
abbrev pub StaysAt : {T : Type 0} → State → State → Result T Error → Type 0
StaysAt old new result =
    HasCleanDisk new → IsTrue new.is_open → (t : Tables) → IsAt old t → OnErr result (IsAt new t)

-- and begins none
abbrev pub StaysOutside : {T : Type 0} → State → State → Result T Error → Type 0
StaysOutside old new result =
    HasCleanDisk new → old.in_transaction ≡ false → OnErr result (new.in_transaction ≡ false)

-- ---- it ends

-- what it shows is the book from then on
abbrev pub Keeps : {T : Type 0} → State → State → Result T Error → Type 0
Keeps old new result =
    HasCleanDisk new → (began t : Tables) → IsIn old began t → OnOk result (IsAt new t)

-- the book is as it was when it began
abbrev pub Returns : State → State → Type 0
Returns old new =
    HasCleanDisk new → IsTrue new.is_open → (began : Tables) → IsBased old began → IsAt new began

-- so it is where this failed
abbrev pub ReturnsOnErr : {T : Type 0} → State → State → Result T Error → Type 0
ReturnsOnErr old new result =
    HasCleanDisk new → IsTrue new.is_open → (began : Tables) → IsBased old began
    → OnErr result (IsAt new began)

-- no transaction is open
abbrev pub Ends : State → Type 0
Ends new = HasCleanDisk new → new.in_transaction ≡ false

-- a stop leaves all that it shows, or none
abbrev pub CommitsShown : State → State → Type 0
CommitsShown old new = Survives old new (λ trees. trees ≡ old.now.trees)

-- over an open connection, in a transaction or not, a call fails only for memory or since the store
-- failed
abbrev pub FailsWhile : Bool → {T : Type 0} → State → State → Result T Error → Type 0
FailsWhile inside old new result =
    HasCleanDisk new → IsTrue old.is_open → old.in_transaction ≡ inside
    → IfErr result (IsExcused old new)

-- ---- a change inside one

-- of tables of which this is so, a change that succeeded shows these
abbrev pub LeadsInside : {T : Type 0} →
    State → State → Result T Error → (Tables → Type 0) → (Tables → Tables) → Type 0
LeadsInside old new result fits changed =
    HasCleanDisk new → (began t : Tables) → IsIn old began t → fits t
    → OnOk result (IsIn new began (changed t))

-- whether it succeeded or not, and whatever the tables, the transaction can be given up
abbrev pub CanReturn : State → State → Type 0
CanReturn old new = HasCleanDisk new → (began t : Tables) → IsIn old began t → IsBased new began

-- a stop leaves nothing of it
abbrev pub StopsInside : State → State → Type 0
StopsInside old new = Survives old new (λ _. (began t : Tables) → IsIn old began t → ⊥)

-- A change in a transaction that is open commits nothing. Of tables of which this is so it is made
-- whole, or the transaction is to be given up.
pub record ChangesInside {T : Type 0} (old new : State) (result : Result T Error)
    (fits : Tables → Type 0) (changed : Tables → Tables) : Type 0 where
  pub done : LeadsInside old new result fits changed
  pub based : CanReturn old new
  pub stop : StopsInside old new
