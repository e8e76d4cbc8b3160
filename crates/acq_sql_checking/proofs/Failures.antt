-- What an exit that passes on an error says.
use Rattle.std.proofs.Common.{inl, inr, ℕ, arith, Ok, Err, Result, OnErr}
use Rattle.sqlite.specs.declared.error.Error.{Error}
use Rattle.sqlite.specs.Effect.{Database}
use Rattle.acq_sql_checking.specs.Checked.{IsFailure, Judges}
use Rattle.acq_sql_checking.specs.Faults.{fault_of}
use Rattle.acq_sql_checking.specs.declared.opening_fault.OpeningFault.{OpeningFault}

-- an error of the database is a failure
pub error_fails : (e : Error) → IsFailure (fault_of e)
error_fails e = grind arith

-- of which a check of a book says nothing
pub failure_judges : (T : Type 0) (wanted : ℕ) (db : Database) (fault : OpeningFault)
    → IsFailure fault → Judges {T = T} wanted db (Err fault)
failure_judges T wanted db fault (inl is) = rw is tt
failure_judges T wanted db fault (inr is) = rw is tt

pub on_err : {T E : Type 0} (P : Type 0) (result : Result T E) → P → OnErr result P
on_err P (Ok x) so = tt
on_err P (Err e) so = so
