-- What a fault says of the text, and how it is printed.
use Rattle.std.specs.Prelude.{◌≡◌, ℕ, List, ◌++◌, codes, Err}
use Rattle.std.specs.Fmt.{decimal}
use Rattle.acq_link.specs.HexLines.{messages_of_text}
use Rattle.acq_link.specs.declared.hex_frames.hex_fault.HexFault.{HexFault}
use Rattle.acq_link.specs.declared.hex_frames.hex_fault.HexFault.TheVariants.{Memory, BadLine}

-- the line that the fault names is the text's first bad one; a want of memory says nothing
abbrev pub IsFaultOf : List ℕ → HexFault → Type 0
IsFaultOf text Memory = Unit {0}
IsFaultOf text (BadLine number) = messages_of_text text ≡ Err number

abbrev pub text_of : HexFault → List ℕ
text_of Memory = codes "out of memory"
text_of (BadLine number) = codes "line " ++ decimal number ++ codes " holds no message"
