-- Messages in, text for a person or JSON for a program out.
use Rattle.std.specs.Prelude.{◌≡◌, ◌⊎◌, ◌<◌, ℕ, nat_le, Bool, true, false, List, [], ◌∷◌, ◌++◌}
use Rattle.std.specs.Prelude.{codes, length, take, Result, Ok, Err}
use Rattle.std.specs.List.{flat_map}
use Rattle.acq_link.specs.HexLines.{messages_of_text}
use Rattle.acq_link.specs.Frames.{Frames, FramesThen, framed, is_partial, has_bad_length}
use Rattle.acq_link.specs.FramesAt.{BeginsWithFrame}
use Rattle.acq_json.specs.Lines.{json_lines}
use Rattle.acq_json.specs.Written.{json_line}
use Rattle.acq_show.specs.Shown.{shown}
use Rattle.acq_show.specs.Lines.{lines_shown}
use Rattle.acq_commands.specs.Streams.{Stream}
use Rattle.acq_faults.specs.declared.fault.Fault as fault
use Rattle.acq_commands.specs.declared.input_form.InputForm.{InputForm}
use Rattle.acq_commands.specs.declared.input_form.InputForm.TheVariants as form
use Rattle.acq_commands.specs.declared.shown_form.ShownForm.{ShownForm}
use Rattle.acq_commands.specs.declared.shown_form.ShownForm.TheVariants.{Text, Json}

-- what a person is shown of a message, and an empty line; or its object of JSON, on its line
abbrev pub entry : ShownForm → List ℕ → List ℕ
entry Text message = shown message ++ codes "\n"
entry (Json cards) message = json_line cards message

-- what is shown of messages, in order
abbrev pub entries : ShownForm → List (List ℕ) → List ℕ
entries how messages = flat_map (entry how) messages

-- what is shown of lines as `replay` reads and writes them
abbrev pub text_shown : ShownForm → List ℕ → List ℕ
text_shown Text lines = lines_shown lines
text_shown (Json cards) lines = json_lines cards lines

-- The input is whole frames of these messages, and then the rest; and what went out shows them.
pub record ShowsFirst (how : ShownForm) (input out : List ℕ) (messages : List (List ℕ)) (rest : List ℕ) : Type 0 where
  pub taken : FramesThen input messages rest
  pub given : out ≡ entries how messages

-- the message stands as a whole frame at the front of the rest
abbrev pub IsNext : List ℕ → List ℕ → Type 0
IsNext message rest = (later : List ℕ) × BeginsWithFrame rest message later

-- So many first bytes of what is shown of a message went out behind the earlier ones.
pub record BreaksEntry (how : ShownForm) (input out : List ℕ) (messages : List (List ℕ)) (message : List ℕ) (n : ℕ)
    : Type 0 where
  pub rest : List ℕ
  pub before : List ℕ
  pub shows : ShowsFirst how input before messages rest
  pub next : IsNext message rest
  pub short : n < length (entry how message)
  pub given : out ≡ before ++ take n (entry how message)

-- How the frames that were read were shown, and what went out, by the fault that stopped it.
abbrev pub ShowsUntil : ShownForm → List ℕ → List ℕ → fault.Fault → Type 0
ShowsUntil how input out fault.TheVariants.Memory =
    (messages : List (List ℕ)) × (rest : List ℕ) × ShowsFirst how input out messages rest
ShowsUntil how input out fault.TheVariants.BadLength =
    (messages : List (List ℕ)) × (rest : List ℕ) × ShowsFirst how input out messages rest
    × (has_bad_length rest ≡ true)
ShowsUntil how input out fault.TheVariants.Ended =
    (messages : List (List ℕ)) × (rest : List ℕ) × ShowsFirst how input out messages rest
    × (is_partial rest ≡ true)
ShowsUntil how input out (fault.TheVariants.Write n) =
    (messages : List (List ℕ)) × (message : List ℕ) × BreaksEntry how input out messages message n
ShowsUntil how input out fault.TheVariants.Read = out ≡ []
ShowsUntil how input out other = ⊥

-- all of the input is frames of these messages, and what went out shows them
abbrev pub ShowsAll : ShownForm → List ℕ → List ℕ → Type 0
ShowsAll how input out =
    (messages : List (List ℕ)) × Frames input messages × (out ≡ entries how messages)

-- how frames were shown, and what went out
abbrev pub Shows : ShownForm → List ℕ → List ℕ → Result (Unit {0}) fault.Fault → Type 0
Shows how input out (Ok u) = ShowsAll how input out
Shows how input out (Err f) = ShowsUntil how input out f

-- How the messages of lines in hexadecimal were shown, and what went out. A bad line is told before
-- anything is shown.
abbrev pub ShowsHex : ShownForm → List ℕ → List ℕ → Result (Unit {0}) fault.Fault → Type 0
ShowsHex how input out (Err (fault.TheVariants.BadLine n)) =
    (messages_of_text input ≡ Err n) × (out ≡ [])
ShowsHex how input out (Err fault.TheVariants.Read) = out ≡ []
ShowsHex how input out (Err fault.TheVariants.Memory) =
    (out ≡ [])
    ⊎ ((messages : List (List ℕ)) × (messages_of_text input ≡ Ok messages)
    × Shows how (framed messages) out (Err fault.TheVariants.Memory))
ShowsHex how input out ended =
    (messages : List (List ℕ)) × (messages_of_text input ≡ Ok messages)
    × Shows how (framed messages) out ended

-- How lines as `replay` reads and writes them were shown, and what went out.
abbrev pub ShowsText : ShownForm → List ℕ → List ℕ → Result (Unit {0}) fault.Fault → Type 0
ShowsText how input out (Ok u) = out ≡ text_shown how input
ShowsText how input out (Err fault.TheVariants.Memory) = out ≡ []
ShowsText how input out (Err (fault.TheVariants.Write n)) =
    (n < length (text_shown how input)) × (out ≡ take n (text_shown how input))
ShowsText how input out (Err fault.TheVariants.Read) = out ≡ []
ShowsText how input out (Err other) = ⊥

-- A text begins with a byte that can be printed, and a frame with one of 16 at most: so great is
-- the first byte of the greatest length.
abbrev pub is_text : List ℕ → Bool
is_text [] = false
is_text (byte ∷ rest) = nat_le 32 byte

-- as lines, or as frames
abbrev pub ShowsBy : ShownForm → Bool → List ℕ → List ℕ → Result (Unit {0}) fault.Fault → Type 0
ShowsBy how true = ShowsText how
ShowsBy how false = Shows how

-- how an input was shown, by the form of its messages
abbrev pub ShowsInput : ShownForm → InputForm → List ℕ → List ℕ → Result (Unit {0}) fault.Fault → Type 0
ShowsInput how form.Plain input out ended = ShowsBy how (is_text input) input out ended
ShowsInput how form.HexLines input out ended = ShowsHex how input out ended

-- What was read was shown so, and this was written.
abbrev pub RunsShow : ShownForm → InputForm → (received sent : Stream) → Result (Unit {0}) fault.Fault → Type 0
RunsShow how form received sent ended =
    (bytes out : List ℕ) × (received.after ≡ received.before ++ bytes)
    × (sent.after ≡ sent.before ++ out) × ShowsInput how form bytes out ended

-- one message was shown, or what a fault leaves
abbrev pub ShowsOne : ShownForm → List ℕ → List ℕ → List ℕ → Result (Unit {0}) fault.Fault → Type 0
ShowsOne how message old new (Ok u) = new ≡ old ++ entry how message
ShowsOne how message old new (Err fault.TheVariants.Memory) = new ≡ old
ShowsOne how message old new (Err (fault.TheVariants.Write n)) =
    (n < length (entry how message)) × (new ≡ old ++ take n (entry how message))
ShowsOne how message old new (Err other) = ⊥

-- why no whole frame stands at the front
abbrev pub FrameFault : List ℕ → fault.Fault → Type 0
FrameFault bytes fault.TheVariants.BadLength = has_bad_length bytes ≡ true
FrameFault bytes fault.TheVariants.Ended = is_partial bytes ≡ true
FrameFault bytes _ = ⊥
