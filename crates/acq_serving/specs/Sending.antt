-- What goes out for what the host said.
use Rattle.std.specs.Prelude.{◌≡◌, ◌<◌, ℕ, List, ◌++◌, length, take, Result, Ok, Err}
use Rattle.acq_link.specs.Frames.{frame}
use Rattle.acq_core.specs.declared.output.Output.{Output}
use Rattle.acq_core.specs.declared.output.Output.TheVariants.{Reply}
use Rattle.acq_front.specs.declared.front_fault.FrontFault as fault

-- a text's frame went out, or its first n bytes
abbrev pub Sends : List ℕ → List ℕ → List ℕ → Result (Unit {0}) fault.FrontFault → Type 0
Sends text old new (Ok u) = new ≡ old ++ frame text
Sends text old new (Err (fault.TheVariants.Write n)) =
    (n < length (frame text)) × (new ≡ old ++ take n (frame text))
Sends text old new (Err other) = ⊥

-- where the host's output is a reply, its frame went out, or its first n bytes
abbrev pub SendsReply : Output → List ℕ → List ℕ → Result (Unit {0}) fault.FrontFault → Type 0
SendsReply (Reply party text) old new result = Sends text old new result
SendsReply other old new (Ok u) = new ≡ old
SendsReply other old new (Err f) = ⊥

-- it is no fault of the input
abbrev pub OfMessage : Result (Unit {0}) fault.FrontFault → Type 0
OfMessage (Err fault.TheVariants.BadLength) = ⊥
OfMessage (Err fault.TheVariants.Ended) = ⊥
OfMessage (Err fault.TheVariants.Read) = ⊥
OfMessage other = Unit {0}
