-- What a host took in a round of a control connection, by how that went.
use Rattle.std.specs.Prelude.{◌≡◌, ℕ, List, Option, Some, None, Result, Err}
use Rattle.acq_core.specs.declared.event.Event.{Event}
use Rattle.acq_core.specs.Tables.{Tables}
use Rattle.acq_front.specs.Faults.{TellsStore}
use Rattle.acq_front.specs.Stops.{Left}
use Rattle.acq_front.specs.declared.front_fault.FrontFault.{FrontFault}
use Rattle.acq_front.specs.declared.front_fault.FrontFault.TheVariants.{Memory, Store}
use Rattle.acq_rounds.specs.Reaching.{Reaches, ReachesSome}

module _ {X : Type 0} where
  -- this holds unless memory or the store refused something
  abbrev pub UnlessRefused : Option (Result X FrontFault) → Type 0 → Type 0
  UnlessRefused (Some (Err Memory)) p = Unit {0}
  UnlessRefused (Some (Err Store)) p = Unit {0}
  UnlessRefused other p = p

  -- the host took events, of which this holds; or some, where memory or the store refused something
  abbrev pub ReachesIf : Tables → Left → (List Event → Type 0) → Option (Result X FrontFault) →
      Type 0
  ReachesIf old left such (Some (Err Memory)) = ReachesSome old left such
  ReachesIf old left such (Some (Err Store)) = ReachesSome old left such
  ReachesIf old left such other = Reaches old left such

  -- what is told of the store
  abbrev pub TellsIf : Option (Result X FrontFault) → ℕ → ℕ → Type 0 → Type 0
  TellsIf None old new other = new ≡ old
  TellsIf (Some result) old new other = TellsStore result old new other
