-- The faults' texts, and how many reads failed.
use Rattle.std.specs.Prelude.{ℕ, List, ◌++◌, codes, Result, Ok, Err}
use Rattle.std.specs.Fmt.{decimal}
use Rattle.acq_link.specs.declared.input_fault.InputFault as input
use Rattle.acq_out.specs.declared.records.record_fault.RecordFault.{RecordFault}
use Rattle.acq_out.specs.declared.records.record_fault.RecordFault.TheVariants.{Memory, Read, BadRecord}

abbrev pub text_of : RecordFault → List ℕ
text_of Memory = codes "out of memory"
text_of Read = codes "a read failed"
text_of (BadRecord n) = codes "record " ++ decimal n ++ codes " is out of its form"

-- what a fault of the input is
abbrev pub of_input : input.InputFault → RecordFault
of_input input.TheVariants.Memory = Memory
of_input input.TheVariants.Read = Read

-- how many reads failed
abbrev pub reads_failed : RecordFault → ℕ
reads_failed Memory = 0
reads_failed Read = 1
reads_failed (BadRecord n) = 0

abbrev pub failed_reads : {T : Type 0} → Result T RecordFault → ℕ
failed_reads (Ok x) = 0
failed_reads (Err fault) = reads_failed fault
