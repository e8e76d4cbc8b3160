-- What a stop leaves of a run, by how the run ended.
use Rattle.std.proofs.Common.{◌≡◌, ◌⊎◌, inl, inr, ◌+◌, List}
use Rattle.std.proofs.Common.{Result, Ok, Err, OnOk, IfErr}
use Rattle.std.proofs.Math.Logic.{∥∥₁_elim}
use Rattle.acq_core.specs.declared.event.Event.{Event}
use Rattle.acq_core.specs.Tables.{Tables, tables_after}
use Rattle.acq_host.specs.declared.run_fault.RunFault.{RunFault}
use Rattle.acq_host.specs.Runs.{after_first}
use Rattle.acq_sql_checking.specs.Checked.{IsFailure}
use Rattle.acq_sql_checking.specs.declared.opening_fault.OpeningFault.{OpeningFault}
use Rattle.acqd.specs.StoppedRuns.{IsLeftBy, IsNoRefusal}

pub left_by : {T : Type 0} (old t : Tables) (events : List Event) (ran : Result T RunFault)
    → OnOk ran (t ≡ tables_after old events)
    → IfErr ran (λ fault. (t ≡ after_first fault.at old events)
    ⊎ (t ≡ after_first (fault.at + 1) old events))
    → IsLeftBy old events ran t
left_by old t events (Ok said) whole part = whole
left_by old t events (Err fault) whole part = part

-- what an open tells where it failed is no refusal
pub no_refusal : (fault : OpeningFault) → ∥ IsFailure fault ∥₁ → IsNoRefusal fault
no_refusal fault failed = (
  λ is. ∥∥₁_elim failed (λ x y. absurd x)
      (elim [ inl memory ↦ absurd (cc) | inr store ↦ absurd (cc) ]),
  λ version is. ∥∥₁_elim failed (λ x y. absurd x)
      (elim [ inl memory ↦ absurd (cc) | inr store ↦ absurd (cc) ]),
)
