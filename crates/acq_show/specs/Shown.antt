-- What a person is shown of a message (own profile).
use Rattle.std.specs.Prelude.{ℕ, ◌-◌, List, [], ◌++◌, length, replicate, codes, slice_index}
use Rattle.std.specs.Prelude.{flat_map, Result, Ok, Err, if◌then◌else◌}
use Rattle.std.specs.Fmt.{decimal}
use Rattle.iso_codec.specs.Message.{IsoMessage}
use Rattle.iso_codec.specs.Reading.{reading_of}
use Rattle.iso_codec.specs.FaultPlaces.{fault_place}
use Rattle.iso_codec.specs.FaultTexts.{number_of_fault, element_of_fault, text_of_fault}
use Rattle.iso_codec.specs.declared.decode_fault.DecodeFault.{DecodeFault}
use Rattle.acq_show.specs.Names.{class_name, function_name, origin_name, is_named, element_name}
use Rattle.acq_show.specs.Contents.{content_shown}
use Rattle.acq_show.specs.Remarks.{message_remark}

abbrev pub spaces : ℕ → List ℕ
spaces n = replicate n 32

-- a space and the name of a type, or nothing
abbrev pub name_words : ℕ → ℕ → ℕ → ℕ → List ℕ
name_words version class function origin =
    if is_named version class function origin
    then codes " " ++ class_name class function ++ codes " " ++ function_name function
    ++ origin_name origin
    else []

-- the type and its name
abbrev pub type_line : List ℕ → List ℕ
type_line kind =
    kind ++ name_words (slice_index kind 0) (slice_index kind 1) (slice_index kind 2)
    (slice_index kind 3)
    ++ codes "\n"

-- the number to the right in a column, the name to the left in one, what is shown of the content
abbrev pub element_line : ℕ × List ℕ → List ℕ
element_line e =
    spaces (5 - length (decimal e.0)) ++ decimal e.0 ++ codes "  " ++ element_name e.0
    ++ spaces (34 - length (element_name e.0)) ++ content_shown e.0 e.1 ++ codes "\n"

-- a line for the type, and one for each element
abbrev pub message_shown : IsoMessage → List ℕ
message_shown m = type_line m.kind ++ flat_map element_line m.elements

-- the fault in words, by its number and element, and how many bytes stand before its place
abbrev pub fault_line : DecodeFault → ℕ → List ℕ
fault_line fault place =
    codes "not a message: " ++ text_of_fault fault ++ codes " (fault "
    ++ decimal (number_of_fault fault) ++ codes " " ++ decimal (element_of_fault fault)
    ++ codes "), at byte " ++ decimal place ++ codes "\n"

abbrev pub reading_shown : List ℕ → Result IsoMessage DecodeFault → List ℕ
reading_shown text (Ok m) = message_shown m ++ message_remark m
reading_shown text (Err fault) = fault_line fault (fault_place text fault)

-- what is shown of a text
unfoldable pub shown : List ℕ → List ℕ
shown text = reading_shown text (reading_of text)
