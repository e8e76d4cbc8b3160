-- The printed text of each fault: its name, and then its values, each behind a space.
use Rattle.std.specs.Prelude.{ℕ, ◌-◌, List, ◌++◌, length, replicate, codes}
use Rattle.std.specs.Fmt.{decimal}
use Rattle.card_no.specs.Prefix.{prefix_digits}
use Rattle.card_no.specs.declared.range_fault.RangeFault.{RangeFault}
use Rattle.card_no.specs.declared.range_fault.RangeFault.TheVariants.{Memory, BadRange, Overlap}
use Rattle.card_no.specs.declared.range_fault.RangeFault.TheVariants.{NoSuchRange, BadLine}

-- an end of a range, with zeros in front up to the length of a prefix
abbrev pub end_text : ℕ → List ℕ
end_text number = replicate (prefix_digits - length (decimal number)) 48 ++ decimal number

abbrev pub fault_text : RangeFault → List ℕ
fault_text Memory = codes "Memory"
fault_text BadRange = codes "BadRange"
fault_text (Overlap r) =
    codes "Overlap " ++ (end_text r.low ++ (codes " " ++ end_text r.high))
fault_text NoSuchRange = codes "NoSuchRange"
fault_text (BadLine n) = codes "BadLine " ++ decimal n
