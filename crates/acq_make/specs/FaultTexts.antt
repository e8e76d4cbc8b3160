-- What is printed of a fault.
use Rattle.std.specs.Prelude.{ℕ, List, ◌++◌, codes}
use Rattle.std.specs.Fmt.{decimal}
use Rattle.iso_codec.specs.FaultTexts.{text_of_set_fault}
use Rattle.acq_make.specs.declared.make_fault.MakeFault.{MakeFault}
use Rattle.acq_make.specs.declared.make_fault.MakeFault.TheVariants.{Memory, BadLine, BadMessage}

abbrev pub text_of : MakeFault → List ℕ
text_of Memory = codes "out of memory"
text_of (BadLine n) = codes "line " ++ decimal n ++ codes " says no element of a message"
text_of (BadMessage n fault) = codes "line " ++ decimal n ++ codes ": " ++ text_of_set_fault fault
