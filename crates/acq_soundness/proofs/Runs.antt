-- What each step keeps holds after any events.
use Rattle.std.proofs.Common.{◌≡◌, List, [], ◌∷◌, ◌++◌, refl}
use Rattle.acq_core.specs.declared.event.Event.{Event}
use Rattle.acq_core.specs.declared.arrival.Arrival.{Arrival}
use Rattle.acq_core.specs.Arrivals.{arrival_of}
use Rattle.acq_core.specs.Tables.{Tables, step_tables, tables_after}

pub kept : (P : Tables → Type 0) → ((t : Tables) (a : Arrival) → P t → P (step_tables t a)) →
    (t : Tables) (es : List Event) → P t → P (tables_after t es)
kept P step t [] h = h
kept P step t (e ∷ es) h = kept P step (step_tables t (arrival_of e)) es (step t (arrival_of e) h)

-- events behind others
pub tables_after-append : (t : Tables) (es fs : List Event) →
    tables_after t (es ++ fs) ≡ tables_after (tables_after t es) fs
tables_after-append t [] fs = refl
tables_after-append t (e ∷ es) fs = tables_after-append (step_tables t (arrival_of e)) es fs
