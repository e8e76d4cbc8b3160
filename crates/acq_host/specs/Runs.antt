-- What a run of events leaves: the outputs and the tables of those that were taken.
use Rattle.std.specs.Prelude.{◌≡◌, ℕ, ◌<◌, List, length, take, Option, Result, Ok, Err}
use Rattle.acq_core.specs.declared.event.Event.{Event}
use Rattle.acq_core.specs.declared.output.Output.{Output}
use Rattle.acq_core.specs.declared.output.Output.TheVariants.{Reply}
use Rattle.acq_core.specs.declared.arrival.Arrival.{Arrival}
use Rattle.acq_core.specs.declared.change.Change.{Change}
use Rattle.acq_core.specs.Changes.{change_for}
use Rattle.acq_core.specs.Tables.{Tables, known_in, outputs, step_output, tables_after}
use Rattle.acq_book.specs.Promise.{CountsFault}
use Rattle.acq_soundness.specs.Replies.{IsReplyText}
use Rattle.acq_host.specs.declared.run_fault.RunFault.{RunFault}

-- what the host says, if it is a reply, is the text of one
abbrev pub IsWellSaid : Output → Type 0
IsWellSaid output =
    (party : Option (List ℕ)) (text : List ℕ) → output ≡ Reply party text → IsReplyText text

-- what the host says to an arrival, and what changes, is decided over these tables
abbrev pub IsDecided : {R : Type 0} → Tables → Arrival → Output × Option Change × R → Type 0
IsDecided t a x = (x.0 ≡ step_output t a) × (x.1 ≡ change_for (known_in t a) a)

-- the tables after the first events
abbrev pub after_first : ℕ → Tables → List Event → Tables
after_first n t events = tables_after t (take n events)

-- a run stopped at an event, after these outputs to those before it
pub record StopsAt (t : Tables) (events : List Event) (at : ℕ) (said : List Output) : Type 0 where
  pub within : at < length events
  pub outputs : said ≡ outputs t (take at events)

-- a run's fault counts as the book's does, and a run that went to its end counts none
abbrev pub CountsRun : {T : Type 0} → Result T RunFault → ℕ → ℕ → Type 0
CountsRun (Ok x) old new = new ≡ old
CountsRun (Err fault) old new = CountsFault {T = Unit {0}} (Err fault.fault) old new
