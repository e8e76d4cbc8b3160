-- When an open fails, and when it says that the store did.
use Rattle.std.specs.Prelude.{◌≡◌, None, Result, IfErr, IsTrue}
use Rattle.sqlite.specs.declared.error.Error.{Error}
use Rattle.sqlite.specs.State.{State, HasCleanDisk}
use Rattle.row_lemmas.specs.Excused.{IsExcused}
use Rattle.acq_book.specs.Promise.{HasRisen}
use Rattle.acq_sql_checking.specs.declared.opening_fault.OpeningFault.{OpeningFault}
use Rattle.acq_sql_checking.specs.declared.opening_fault.OpeningFault.TheVariants.{Store}

-- over an open connection with no limit of steps, a call fails only for memory or since the store
-- failed
abbrev pub FailsExcusably : {T : Type 0} → State → State → Result T Error → Type 0
FailsExcusably old new result =
    HasCleanDisk new → IsTrue old.is_open → old.step_limit ≡ None
    → IfErr result (IsExcused old new)

-- over such a connection, the store is blamed only where its own count of its faults rose
abbrev pub OpeningBlamesStore : State → State → OpeningFault → Type 0
OpeningBlamesStore old new fault =
    HasCleanDisk new → IsTrue old.is_open → old.step_limit ≡ None → fault ≡ Store
    → HasRisen old.faults new.faults
