-- How a call in a transaction that failed tells a refusal from a fault of the store.
use Rattle.std.specs.Prelude.{◌≡◌, ◌⊎◌, Result, IfErr, IsTrue}
use Rattle.sqlite.specs.declared.error.Error.{Error}
use Rattle.sqlite.specs.declared.error.Error.TheVariants.{SqliteFailure}
use Rattle.sqlite.specs.declared.error.ErrorCode.TheVariants.{TooBig}
use Rattle.sqlite.specs.State.{State, HasCleanDisk}
use Rattle.row_lemmas.specs.Excused.{IsExcused}

-- its transaction is open still, or it failed for memory or since the store failed, or a row was
-- too large
abbrev pub IsToldApart : State → State → Error → Type 0
IsToldApart old new e =
    IsTrue new.in_transaction ⊎ (IsExcused old new e ⊎ (e ≡ SqliteFailure TooBig))

-- of any call in a transaction that is open
abbrev pub FailsApart : {T : Type 0} → State → State → Result T Error → Type 0
FailsApart old new result =
    HasCleanDisk new → IsTrue old.is_open → IsTrue old.in_transaction
    → IfErr result (IsToldApart old new)
