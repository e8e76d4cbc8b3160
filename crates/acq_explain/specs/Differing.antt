-- What a request differs in from the one that used its key before (own profile).
use Rattle.std.specs.Prelude.{ℕ, List, [], ◌∷◌, ◌++◌, codes, flat_map, Option, Some, None}
use Rattle.std.specs.Prelude.{if◌then◌else◌}
use Rattle.std.specs.Result.{result_ok}
use Rattle.std.specs.Str.{bytes_eq}
use Rattle.iso_codec.specs.Message.{IsoMessage}
use Rattle.iso_codec.specs.Reading.{reading_of}
use Rattle.acq_message.specs.declared.request_message.RequestMessage.{RequestMessage}
use Rattle.acq_message.specs.Elements.{text_at, essence_of, essential_of_any}
use Rattle.acq_core.specs.Known.{Known, Prior}
use Rattle.acq_reasons.specs.declared.reason.Reason.{Reason}
use Rattle.acq_reasons.specs.declared.reason.Reason.TheVariants as reason
use Rattle.acq_show.specs.Names.{is_empty}
use Rattle.acq_explain.specs.Details.{detail, element_name, shown}

-- the card number, and what a repeat must have alike beside it
abbrev pub essential_elements : List ℕ
essential_elements = 2 ∷ essential_of_any

-- what is shown of an element, or that it isn't there
abbrev pub shown_or_nothing : ℕ → List ℕ → List ℕ
shown_or_nothing n text = if is_empty text then codes "nothing" else shown n text

-- an element's content, and what it was before
unfoldable pub both_shown : ℕ → List ℕ → List ℕ → List ℕ
both_shown n text before =
    shown_or_nothing n text ++ codes ", before " ++ shown_or_nothing n before

unfoldable pub difference : ℕ → List ℕ → List ℕ → List ℕ
difference n text before =
    if bytes_eq text before then [] else detail (element_name n) (both_shown n text before)

abbrev pub difference_at : IsoMessage → IsoMessage → ℕ → List ℕ
difference_at own kept n = difference n (text_at own n) (text_at kept n)

-- between two messages of just what must be alike
abbrev pub differences : Option IsoMessage → Option IsoMessage → List ℕ
differences None kept = []
differences (Some own) None = []
differences (Some own) (Some kept) = flat_map (difference_at own kept) essential_elements

-- the message that a text spells, if it does
abbrev pub spelled_by : List ℕ → Option IsoMessage
spelled_by text = result_ok (reading_of text)

abbrev pub differing_from : RequestMessage → Option Prior → List ℕ
differing_from r None = []
differing_from r (Some p) =
    differences (spelled_by (essence_of r.service r.message)) (spelled_by p.essence)

-- of a request that is refused for them
abbrev pub differing : Known → RequestMessage → Reason → List ℕ
differing k r reason.OtherRequest = differing_from r k.recorded
differing k r other = []
