-- What a run has of its events, by how it ended.
use Rattle.std.proofs.Common.{◌≡◌, List, take, Result, Ok, Err}
use Rattle.std.specs.Prelude.{IfOk, IfErr, OnOk}
use Rattle.std.proofs.lemmas.List.Elements.{All-take}
use Rattle.acq_core.specs.declared.event.Event.{Event}
use Rattle.acq_core.specs.declared.output.Output.{Output}
use Rattle.acq_core.specs.Events.{IsEvent, AreEvents}
use Rattle.acq_core.specs.Tables.{Tables, outputs, tables_after}
use Rattle.acq_host.specs.declared.run_fault.RunFault.{RunFault}
use Rattle.acq_host.specs.Runs.{StopsAt, after_first}

-- what holds where events gave these outputs and led from some tables to others
abbrev pub HoldsOfRuns : (Tables → List Event → List Output → Tables → Type 0) → Type 0
HoldsOfRuns Holds =
    (t now : Tables) (further : List Event) (said : List Output) → AreEvents further →
    said ≡ outputs t further → now ≡ tables_after t further → Holds t further said now

module _ {T : Type 0} (t now : Tables) (events : List Event) where
  module _ (Holds : Tables → List Event → List Output → Tables → Type 0)
      (holds : HoldsOfRuns Holds) (are : AreEvents events) where
    -- it went to its end
    pub whole : (result : Result T RunFault) (items : T → List Output) →
        IfOk result (λ said. items said ≡ outputs t events) →
        OnOk result (now ≡ tables_after t events) →
        IfOk result (λ said. Holds t events (items said) now)
    whole (Ok said) items says leads = holds t now events (items said) are says leads
    whole (Err fault) items says leads = tt

    -- it stopped
    pub stopped : (result : Result T RunFault) →
        IfErr result (λ fault. StopsAt t events fault.at fault.outputs.items) →
        IfErr result (λ fault. now ≡ after_first fault.at t events) →
        IfErr result (λ fault. Holds t (take fault.at events) fault.outputs.items now)
    stopped (Ok said) stops leads = tt
    stopped (Err fault) stops leads =
        holds t now (take fault.at events) fault.outputs.items
        (All-take IsEvent fault.at events are) stops.outputs leads

  -- either way some events led to the tables
  pub led_by : (result : Result T RunFault) → OnOk result (now ≡ tables_after t events) →
      IfErr result (λ fault. now ≡ after_first fault.at t events) →
      (taken : List Event) × (now ≡ tables_after t taken)
  led_by (Ok said) whole part = (events, whole)
  led_by (Err fault) whole part = (take fault.at events, part)
