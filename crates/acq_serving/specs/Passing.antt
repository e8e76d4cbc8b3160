-- What passed over the two ends of a connection, where it was had, and behind those of earlier
-- ones.
use Rattle.std.specs.Prelude.{◌≡◌, ◌+◌, ℕ, List, [], ◌++◌, Option, Some, None, Result, Err}
use Rattle.acq_front.specs.declared.front_fault.FrontFault.{FrontFault}
use Rattle.acq_front.specs.declared.front_fault.FrontFault.TheVariants.{Read}
use Rattle.acq_front.specs.Faults.{failed_reads, failed_writes}
use Rattle.acq_serving.specs.Serving.{Connection}
use Rattle.acq_serving.specs.declared.later_end.LaterEnd.{LaterEnd}

module _ {S K : Type 0} where
  -- this came and went out over its ends; over none nothing did
  abbrev pub PassesOver : (S → List ℕ) → (K → List ℕ) → (old new : Option (S × K)) → Connection →
      Type 0
  PassesOver received sent (Some old) (Some new) c =
      (received new.0 ≡ received old.0 ++ c.input) × (sent new.1 ≡ sent old.1 ++ c.output)
  PassesOver received sent None None c = (c.input ≡ []) × (c.output ≡ [])
  PassesOver received sent old new c = ⊥

  -- its result tells just the reads and writes of its ends that failed; without ends it is a failed
  -- read
  abbrev pub FailsOver : (S → ℕ) → (K → ℕ) → (old new : Option (S × K)) →
      Result (Unit {0}) FrontFault → Type 0
  FailsOver reads writes (Some old) (Some new) result =
      (reads new.0 ≡ reads old.0 + failed_reads result)
      × (writes new.1 ≡ writes old.1 + failed_writes result)
  FailsOver reads writes None None result = result ≡ Err Read
  FailsOver reads writes old new result = ⊥

  -- this holds of what came over its ends before and after
  abbrev pub CameOver : (S → List ℕ) → (List ℕ → List ℕ → Type 0) → (old new : Option (S × K)) →
      Type 0
  CameOver received p (Some old) (Some new) = p (received old.0) (received new.0)
  CameOver received p old new = ⊥

module _ {E : Type 0} where
  abbrev pub end_of : LaterEnd E → E
  end_of l = l.end

  -- what passed over it and over the ends before it, and how many calls failed
  abbrev pub bytes_of : LaterEnd E → List ℕ
  bytes_of l = l.transcript.bytes

  abbrev pub failures_of : LaterEnd E → ℕ
  failures_of l = l.transcript.failures
