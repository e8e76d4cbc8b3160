-- The texts of faults.
use Rattle.std.specs.Prelude.{ℕ, List, codes}
use Rattle.acq_link.specs.declared.deframe_fault.DeframeFault.{DeframeFault}
use Rattle.acq_link.specs.declared.deframe_fault.DeframeFault.TheVariants as deframe
use Rattle.acq_link.specs.declared.input_fault.InputFault.{InputFault}
use Rattle.acq_link.specs.declared.input_fault.InputFault.TheVariants as input

abbrev pub text_of_failed : List ℕ
text_of_failed = codes "a read or a write failed"

abbrev pub text_of_input_fault : InputFault → List ℕ
text_of_input_fault input.Memory = codes "out of memory"
text_of_input_fault input.Read = codes "a read failed"

abbrev pub text_of_deframe_fault : DeframeFault → List ℕ
text_of_deframe_fault deframe.Memory = codes "out of memory"
text_of_deframe_fault deframe.BadLength = codes "a frame of a bad length"
