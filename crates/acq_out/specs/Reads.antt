-- What reading event lines results in.
use Rattle.std.specs.Prelude.{◌≡◌, ℕ, List, Result, Ok, Err}
use Rattle.acq_core.specs.declared.event.Event.{Event}
use Rattle.acq_out.specs.EventLines.{events_of_text}
use Rattle.acq_out.specs.declared.out_fault.OutFault.{OutFault}
use Rattle.acq_out.specs.declared.out_fault.OutFault.TheVariants.{Memory, Read, Write, BadLine}

-- What a text that was read gave: its events, or the number of its first record out of form; of
-- want of memory and of a read that failed nothing is said.
abbrev pub ReadsEvents : List ℕ → Result (List Event) OutFault → Type 0
ReadsEvents text (Ok events) = events_of_text text ≡ Ok events
ReadsEvents text (Err (BadLine n)) = events_of_text text ≡ Err n
ReadsEvents text (Err Memory) = Unit {0}
ReadsEvents text (Err Read) = Unit {0}
ReadsEvents text (Err (Write n)) = ⊥
