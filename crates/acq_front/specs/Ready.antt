-- A message that is whole and waits to be taken.
use Rattle.std.specs.Prelude.{◌≡◌, ◌==◌, ℕ, Bool, ◌&&◌, true, List, length, Result, Ok, Err}
use Rattle.acq_link.specs.FirstMessage.{begins_with_message}
use Rattle.acq_link.specs.Frames.{has_bad_length}
use Rattle.acq_core.specs.declared.output.Output.{Output}
use Rattle.acq_core.specs.declared.output.Output.TheVariants as output
use Rattle.acq_front.specs.declared.front_fault.FrontFault.{FrontFault}
use Rattle.acq_front.specs.declared.front_fault.FrontFault.TheVariants.{BadLength, Memory}
use Rattle.acq_front.specs.declared.front_fault.FrontFault.TheVariants.{Undecodable}

-- a message is whole, and nothing is to be written before it is taken
abbrev pub is_ready : (held unsent : List ℕ) → Bool
is_ready held unsent = (length unsent == 0) && begins_with_message held

-- no message could be taken out: memory ran out, or a bad length stands in front
abbrev pub IsOfStream : List ℕ → FrontFault → Type 0
IsOfStream held Memory = Unit {0}
IsOfStream held BadLength = has_bad_length held ≡ true
IsOfStream held other = ⊥

-- a message that doesn't read ends its connection
abbrev pub ends_after : Output → Result (Unit {0}) FrontFault
ends_after (output.Undecodable fault) = Err (Undecodable fault)
ends_after other = Ok tt
