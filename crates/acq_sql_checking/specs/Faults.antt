-- What an error of the database is to an open, and the faults' numbers and texts.
use Rattle.std.specs.Prelude.{ℕ, List, ◌++◌, codes}
use Rattle.std.specs.Fmt.{decimal}
use Rattle.sqlite.specs.declared.error.Error.{Error}
use Rattle.sqlite.specs.declared.error.Error.TheVariants.{SqliteFailure}
use Rattle.sqlite.specs.declared.error.ErrorCode.TheVariants as code
use Rattle.acq_sql_checking.specs.declared.opening_fault.OpeningFault.{OpeningFault}
use Rattle.acq_sql_checking.specs.declared.opening_fault.OpeningFault.TheVariants.{Memory, Store}
use Rattle.acq_sql_checking.specs.declared.opening_fault.OpeningFault.TheVariants.{NotABook}
use Rattle.acq_sql_checking.specs.declared.opening_fault.OpeningFault.TheVariants.{OtherVersion}

abbrev pub number_of : OpeningFault → ℕ
number_of Memory = 1
number_of Store = 2
number_of NotABook = 40
number_of (OtherVersion n) = 41

-- the fault as printed lines have it: its number, its name and its value
abbrev pub text_of : OpeningFault → List ℕ
text_of Memory = codes "1 Memory"
text_of Store = codes "2 Store"
text_of NotABook = codes "40 NotABook"
text_of (OtherVersion n) = codes "41 OtherVersion " ++ decimal n

-- what an error of the database is to an open
abbrev pub fault_of : Error → OpeningFault
fault_of (SqliteFailure code.OutOfMemory) = Memory
fault_of e = Store
