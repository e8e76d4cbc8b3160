-- What a stop leaves of a run.
use Rattle.std.specs.Prelude.{◌≡◌, ◌≢◌, ◌⊎◌, ◌+◌, ℕ, List, Result, Ok, Err}
use Rattle.acq_core.specs.declared.event.Event.{Event}
use Rattle.acq_core.specs.Tables.{Tables, tables_after}
use Rattle.acq_host.specs.declared.run_fault.RunFault.{RunFault}
use Rattle.acq_host.specs.Runs.{after_first}
use Rattle.acq_sql_checking.specs.declared.opening_fault.OpeningFault.{OpeningFault}
use Rattle.acq_sql_checking.specs.declared.opening_fault.OpeningFault.TheVariants.{NotABook}
use Rattle.acq_sql_checking.specs.declared.opening_fault.OpeningFault.TheVariants.{OtherVersion}

-- the tables after all events of a run; where it ended with a fault, after those before it, or
-- these and the one at which it came
abbrev pub IsLeftBy : {T : Type 0} → Tables → List Event → Result T RunFault → Tables → Type 0
IsLeftBy old events (Ok said) t = t ≡ tables_after old events
IsLeftBy old events (Err fault) t =
    (t ≡ after_first fault.at old events) ⊎ (t ≡ after_first (fault.at + 1) old events)

-- files aren't told as no book, or as one of another version
abbrev pub IsNoRefusal : OpeningFault → Type 0
IsNoRefusal fault = (fault ≢ NotABook) × ((version : ℕ) → fault ≢ OtherVersion version)
