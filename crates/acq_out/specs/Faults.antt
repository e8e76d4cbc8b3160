-- The faults' numbers and texts, and how many reads and writes failed.
use Rattle.std.specs.Prelude.{ℕ, List, ◌++◌, codes, Result, Ok, Err}
use Rattle.std.specs.Fmt.{decimal}
use Rattle.acq_out.specs.declared.records.record_fault.RecordFault as records
use Rattle.acq_out.specs.declared.out_fault.OutFault.{OutFault}
use Rattle.acq_out.specs.declared.out_fault.OutFault.TheVariants.{Memory, Read, Write, BadLine}

abbrev pub number_of : OutFault → ℕ
number_of Memory = 1
number_of Read = 53
number_of (Write n) = 54
number_of (BadLine n) = 62

-- the fault as printed lines have it: its number, its name and its value
abbrev pub text_of : OutFault → List ℕ
text_of Memory = codes "1 Memory"
text_of Read = codes "53 Read"
text_of (Write n) = codes "54 Write " ++ decimal n
text_of (BadLine n) = codes "62 BadLine " ++ decimal n

-- what a fault of reading records is
abbrev pub of_records : records.RecordFault → OutFault
of_records records.TheVariants.Memory = Memory
of_records records.TheVariants.Read = Read
of_records (records.TheVariants.BadRecord n) = BadLine n

-- how many reads failed
abbrev pub reads_failed : OutFault → ℕ
reads_failed Memory = 0
reads_failed Read = 1
reads_failed (Write n) = 0
reads_failed (BadLine n) = 0

abbrev pub failed_reads : {T : Type 0} → Result T OutFault → ℕ
failed_reads (Ok x) = 0
failed_reads (Err fault) = reads_failed fault

-- how many writes failed
abbrev pub writes_failed : OutFault → ℕ
writes_failed Memory = 0
writes_failed Read = 0
writes_failed (Write n) = 1
writes_failed (BadLine n) = 0

abbrev pub failed_writes : {T : Type 0} → Result T OutFault → ℕ
failed_writes (Ok x) = 0
failed_writes (Err fault) = writes_failed fault
