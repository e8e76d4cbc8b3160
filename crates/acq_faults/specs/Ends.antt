-- What the end of a connection is for the program that serves it.
use Rattle.std.specs.Prelude.{ℕ, List, [], Result, Ok, Err}
use Rattle.acq_front.specs.declared.front_fault.FrontFault as front
use Rattle.acq_faults.specs.Faults.{fault_line, of_front}
use Rattle.acq_faults.specs.declared.fault.Fault.{Fault}
use Rattle.acq_faults.specs.declared.fault.Fault.TheVariants.{Memory, Store}

-- want of memory and the store's fault end the program, and no other fault of a connection does
abbrev pub going_on : Result (Unit {0}) front.FrontFault → Result (Unit {0}) Fault
going_on (Err front.TheVariants.Memory) = Err Memory
going_on (Err front.TheVariants.Store) = Err Store
going_on other = Ok tt

-- what is told of a connection's end: a fault that doesn't end the program, by its line
abbrev pub told_line : Result (Unit {0}) front.FrontFault → List ℕ
told_line (Ok u) = []
told_line (Err front.TheVariants.Memory) = []
told_line (Err front.TheVariants.Store) = []
told_line (Err fault) = fault_line (of_front fault)
