-- What the refusal of a book's files is to a command.
use Rattle.acq_sql_checking.specs.declared.opening_fault.OpeningFault.{OpeningFault}
use Rattle.acq_sql_checking.specs.declared.opening_fault.OpeningFault.TheVariants as opening
use Rattle.acq_faults.specs.declared.fault.Fault.{Fault}
use Rattle.acq_faults.specs.declared.fault.Fault.TheVariants.{Memory, Store, NotABook}
use Rattle.acq_faults.specs.declared.fault.Fault.TheVariants.{OtherVersion}

abbrev pub of_opening : OpeningFault → Fault
of_opening opening.Memory = Memory
of_opening opening.Store = Store
of_opening opening.NotABook = NotABook
of_opening (opening.OtherVersion v) = OtherVersion v
