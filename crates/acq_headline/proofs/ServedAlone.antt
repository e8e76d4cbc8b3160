-- A connection that was served as its contract says told each party what its own events alone give.
use Rattle.std.proofs.Common.{◌≡◌, Result, Ok, Err, refl}
use Rattle.acq_core.specs.Tables.{Tables, outputs, tables_after}
use Rattle.acq_front.specs.declared.front_fault.FrontFault.{FrontFault}
use Rattle.acq_front.specs.declared.front_fault.FrontFault.TheVariants.{Memory, Store, BadLength}
use Rattle.acq_front.specs.declared.front_fault.FrontFault.TheVariants.{Ended, Undecodable, Read}
use Rattle.acq_front.specs.declared.front_fault.FrontFault.TheVariants.{Write}
use Rattle.acq_serving.specs.Serving.{Connection, LeavesOff, Serves, events_of}
use Rattle.acq_front.specs.Stops.{Left}
use Rattle.acq_front.specs.Talk.{Saying}
use Rattle.acq_headline.specs.ServedAlone.{TookAllAlone, TookSomeAlone, ServesAlone}
use Rattle.acq_headline.proofs.PartiesAlone.{is_alone}

module _ (S : Saying) (old : Tables) (left : Left) (c : Connection) where
  all_alone : left.tables ≡ tables_after old (events_of old c) → TookAllAlone old left c
  all_alone led =
      is_alone old left.tables (events_of old c) (outputs old (events_of old c)) refl led

  some_alone : LeavesOff S old left c → TookSomeAlone old left c
  some_alone so = record {
    events = so.events;
    missing = so.missing;
    at_most_one = so.at_most_one;
    all = so.all;
    written = so.written;
    alone = λ still.
        is_alone old left.tables so.events (outputs old so.events) refl (so.tables still);
  }

  pub served_alone : (r : Result (Unit {0}) FrontFault) → Serves S old left c r →
      ServesAlone old left c r
  served_alone (Ok u) s = all_alone s.0.tables
  served_alone (Err Memory) s = some_alone s
  served_alone (Err Store) s = some_alone s
  served_alone (Err BadLength) s = all_alone s.0.tables
  served_alone (Err Ended) s = all_alone s.0.tables
  served_alone (Err (Undecodable f)) s = all_alone s.0.tables
  served_alone (Err Read) s = all_alone s.0.tables
  served_alone (Err (Write n)) s = all_alone s.tables
