-- The faults' numbers, their elements and their texts, as printed lines give them.
use Rattle.std.specs.Prelude.{ℕ, List, ◌++◌, codes}
use Rattle.std.specs.Fmt.{decimal}
use Rattle.iso_codec.specs.declared.decode_fault.DecodeFault.{DecodeFault}
use Rattle.iso_codec.specs.declared.decode_fault.DecodeFault.TheVariants.{Memory, BadType}
use Rattle.iso_codec.specs.declared.decode_fault.DecodeFault.TheVariants.{BadBitmap, UnknownElement}
use Rattle.iso_codec.specs.declared.decode_fault.DecodeFault.TheVariants.{Truncated, BadLength}
use Rattle.iso_codec.specs.declared.decode_fault.DecodeFault.TheVariants.{BadContent, Trailing}
use Rattle.iso_codec.specs.declared.set_fault.SetFault as set

abbrev pub number_of_fault : DecodeFault → ℕ
number_of_fault Memory = 1
number_of_fault BadType = 2
number_of_fault BadBitmap = 3
number_of_fault (UnknownElement n) = 4
number_of_fault (Truncated n) = 5
number_of_fault (BadLength n) = 6
number_of_fault (BadContent n) = 7
number_of_fault Trailing = 8

-- the element at fault, or 0
abbrev pub element_of_fault : DecodeFault → ℕ
element_of_fault Memory = 0
element_of_fault BadType = 0
element_of_fault BadBitmap = 0
element_of_fault (UnknownElement n) = n
element_of_fault (Truncated n) = n
element_of_fault (BadLength n) = n
element_of_fault (BadContent n) = n
element_of_fault Trailing = 0

abbrev pub text_of_fault : DecodeFault → List ℕ
text_of_fault Memory = codes "no memory"
text_of_fault BadType = codes "the type is not four digits"
text_of_fault BadBitmap = codes "a bitmap is not hexadecimal"
text_of_fault (UnknownElement n) = codes "element " ++ decimal n ++ codes " is not in the profile"
text_of_fault (Truncated n) = codes "the text ends in element " ++ decimal n
text_of_fault (BadLength n) = codes "element " ++ decimal n ++ codes " has a bad length"
text_of_fault (BadContent n) = codes "element " ++ decimal n ++ codes " has a bad content"
text_of_fault Trailing = codes "bytes stand after the last element"

-- ---- of setting an element: the numbers are those of the same faults of a text

abbrev pub number_of_set_fault : set.SetFault → ℕ
number_of_set_fault set.TheVariants.Memory = 1
number_of_set_fault (set.TheVariants.UnknownElement n) = 4
number_of_set_fault (set.TheVariants.BadLength n) = 6
number_of_set_fault (set.TheVariants.BadContent n) = 7

abbrev pub element_of_set_fault : set.SetFault → ℕ
element_of_set_fault set.TheVariants.Memory = 0
element_of_set_fault (set.TheVariants.UnknownElement n) = n
element_of_set_fault (set.TheVariants.BadLength n) = n
element_of_set_fault (set.TheVariants.BadContent n) = n

abbrev pub text_of_set_fault : set.SetFault → List ℕ
text_of_set_fault set.TheVariants.Memory = codes "no memory"
text_of_set_fault (set.TheVariants.UnknownElement n) =
    codes "element " ++ decimal n ++ codes " is not in the profile"
text_of_set_fault (set.TheVariants.BadLength n) =
    codes "element " ++ decimal n ++ codes " can't have this length"
text_of_set_fault (set.TheVariants.BadContent n) =
    codes "element " ++ decimal n ++ codes " can't have this content"
