-- What a connection's way tells each party: what it got is what its own events alone give.
use Rattle.std.specs.Prelude.{◌≡◌, ◌⊎◌, List, [], ◌∷◌, ◌++◌, Result, Ok, Err}
use Rattle.acq_link.specs.Frames.{Frames}
use Rattle.acq_core.specs.declared.event.Event.{Event}
use Rattle.acq_core.specs.Tables.{Tables, outputs}
use Rattle.acq_front.specs.declared.front_fault.FrontFault.{FrontFault}
use Rattle.acq_front.specs.declared.front_fault.FrontFault.TheVariants.{Memory, Store, BadLength}
use Rattle.acq_front.specs.declared.front_fault.FrontFault.TheVariants.{Ended, Undecodable, Read}
use Rattle.acq_front.specs.declared.front_fault.FrontFault.TheVariants.{Write}
use Rattle.acq_serving.specs.Serving.{Connection, events_of}
use Rattle.acq_front.specs.Stops.{Left}
use Rattle.acq_front.specs.Talk.{replies}
use Rattle.acq_front.specs.Turns.{IsAnswer}
use Rattle.acq_headline.specs.Headline.{IsAlone}

-- the host took the connection's events
abbrev pub TookAllAlone : Tables → Left → Connection → Type 0
TookAllAlone old left c =
    IsAlone old (events_of old c) (outputs old (events_of old c)) left.tables

-- it took them all but for the last issuer's answer, or all; what went out are the replies to those
-- that it took
pub record TookSomeAlone (old : Tables) (left : Left) (c : Connection) : Type 0 where
  pub events : List Event
  pub missing : List Event
  pub at_most_one : (missing ≡ []) ⊎ ((e : Event) × IsAnswer e × (missing ≡ e ∷ []))
  pub all : events_of old c ≡ events ++ missing
  pub written : Frames c.output (replies old events)
  pub alone : left.is_open → IsAlone old events (outputs old events) left.tables

-- however the connection ended
abbrev pub ServesAlone : Tables → Left → Connection → Result (Unit {0}) FrontFault → Type 0
ServesAlone old left c (Ok u) = TookAllAlone old left c
ServesAlone old left c (Err Memory) = TookSomeAlone old left c
ServesAlone old left c (Err Store) = TookSomeAlone old left c
ServesAlone old left c (Err BadLength) = TookAllAlone old left c
ServesAlone old left c (Err Ended) = TookAllAlone old left c
ServesAlone old left c (Err (Undecodable f)) = TookAllAlone old left c
ServesAlone old left c (Err Read) = TookAllAlone old left c
ServesAlone old left c (Err (Write n)) = TookAllAlone old left c
