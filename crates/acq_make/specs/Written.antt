-- How messages are written (own profile).
use Rattle.std.specs.Prelude.{ℕ, List, ◌++◌, codes}
use Rattle.std.specs.List.{flat_map}
use Rattle.std.specs.Fmt.{decimal}
use Rattle.hex.specs.Hex.{encode_upper}
use Rattle.iso_codec.specs.Message.{IsoMessage}
use Rattle.iso_codec.specs.Reading.{spelling}
use Rattle.acq_link.specs.Frames.{frame}
use Rattle.acq_make.specs.declared.made_form.MadeForm.{MadeForm}
use Rattle.acq_make.specs.declared.made_form.MadeForm.TheVariants.{Frames, HexLines, EventLines}

abbrev pub hex_line : List ℕ → List ℕ
hex_line text = encode_upper text ++ codes "\n"

-- a message that came at this moment, as `replay` reads it
abbrev pub event_line : ℕ → List ℕ → List ℕ
event_line moment text =
    codes "frame," ++ decimal moment ++ codes "," ++ encode_upper text ++ codes ",,,\n"

-- a text of a message, in a form
abbrev pub made : MadeForm → List ℕ → List ℕ
made Frames text = frame text
made HexLines text = hex_line text
made (EventLines moment) text = event_line moment text

-- the spellings of messages, one after another
unfoldable pub written : MadeForm → List IsoMessage → List ℕ
written form messages = flat_map (λ m. made form (spelling m)) messages
