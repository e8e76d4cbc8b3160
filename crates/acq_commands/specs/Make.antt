-- Text or JSON in, messages out.
use Rattle.std.specs.Prelude.{◌≡◌, ◌<◌, ℕ, List, [], ◌++◌, length, take, Result, Ok, Err}
use Rattle.iso_codec.specs.Message.{IsoMessage}
use Rattle.acq_json.specs.Said as json
use Rattle.acq_make.specs.Said as lines
use Rattle.acq_make.specs.Written.{written}
use Rattle.acq_make.specs.declared.made_form.MadeForm.{MadeForm}
use Rattle.acq_make.specs.declared.make_fault.MakeFault.{MakeFault}
use Rattle.acq_make.specs.declared.make_fault.MakeFault.TheVariants as make
use Rattle.acq_commands.specs.declared.said_form.SaidForm.{SaidForm}
use Rattle.acq_commands.specs.declared.said_form.SaidForm.TheVariants.{Lines, Json}
use Rattle.acq_faults.specs.declared.fault.Fault as fault
use Rattle.acq_commands.specs.Streams.{Stream}

-- what messages an input says
abbrev pub messages_said : SaidForm → List ℕ → Result (List IsoMessage) MakeFault
messages_said Lines text = lines.messages_said text
messages_said Json text = json.messages_said text

-- The messages that a text says went out, or so many bytes of them; or it says none, and nothing
-- went out.
abbrev pub MakesOf : SaidForm → MadeForm → List ℕ → List ℕ → Result (Unit {0}) fault.Fault → Type 0
MakesOf said form text out (Ok u) =
    (messages : List IsoMessage) × (messages_said said text ≡ Ok messages)
    × (out ≡ written form messages)
MakesOf said form text out (Err (fault.TheVariants.Write n)) =
    (messages : List IsoMessage) × (messages_said said text ≡ Ok messages)
    × (n < length (written form messages)) × (out ≡ take n (written form messages))
MakesOf said form text out (Err (fault.TheVariants.BadLine n)) =
    (messages_said said text ≡ Err (make.BadLine n)) × (out ≡ [])
MakesOf said form text out (Err (fault.TheVariants.BadMessage n cause)) =
    (messages_said said text ≡ Err (make.BadMessage n cause)) × (out ≡ [])
MakesOf said form text out (Err fault.TheVariants.Memory) = out ≡ []
MakesOf said form text out (Err fault.TheVariants.Read) = out ≡ []
MakesOf said form text out (Err other) = ⊥

-- What was read said these messages, and this was written.
abbrev pub RunsMake : SaidForm → MadeForm → (received sent : Stream) → Result (Unit {0}) fault.Fault → Type 0
RunsMake said form received sent ended =
    (text out : List ℕ) × (received.after ≡ received.before ++ text)
    × (sent.after ≡ sent.before ++ out) × MakesOf said form text out ended
