-- How a text is written.
use Rattle.std.specs.Prelude.{◌≡◌, ℕ, List, ◌++◌, take, Result, Ok, Err}
use Rattle.acq_ask.specs.declared.ask_fault.AskFault.{AskFault}
use Rattle.acq_ask.specs.declared.ask_fault.AskFault.TheVariants.{Memory, Write}

-- it went out whole, or so many first bytes of it, or for want of memory none
abbrev pub Puts : (text old new : List ℕ) → Result (Unit {0}) AskFault → Type 0
Puts text old new (Ok u) = new ≡ old ++ text
Puts text old new (Err (Write n)) = new ≡ old ++ take n text
Puts text old new (Err Memory) = new ≡ old
Puts text old new (Err other) = ⊥
