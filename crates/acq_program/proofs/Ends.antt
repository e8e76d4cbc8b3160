-- How commands end.
use Rattle.std.proofs.Common.{◌≤◌, ℕ, Ok, Err, arith}
use Rattle.std.specs.Prelude.{IfOk, Result}
use Rattle.acq_faults.specs.Faults.{status_of}
use Rattle.acq_faults.specs.declared.fault.Fault.{Fault}
use Rattle.acq_faults.specs.declared.fault.Fault.TheVariants as fault
use Rattle.acq_program.specs.Runs.{status_in}

within : (f : Fault) → status_of f ≤ 3
within fault.Memory = omega arith
within fault.Store = omega arith
within fault.BadRange = omega arith
within (fault.Overlap low high) = omega arith
within (fault.BadRecord n) = omega arith
within fault.NoSuchMerchant = omega arith
within fault.NotABook = omega arith
within (fault.OtherVersion v) = omega arith
within fault.BadLength = omega arith
within fault.Ended = omega arith
within (fault.Undecodable f) = omega arith
within fault.Read = omega arith
within (fault.Write n) = omega arith
within fault.Silent = omega arith
within fault.NoProxyHeader = omega arith
within fault.DayNotOver = omega arith
within (fault.StillPending n) = omega arith
within (fault.BadLine n) = omega arith
within (fault.OtherDay day) = omega arith
within (fault.BadMessage line cause) = omega arith
within (fault.RowsMissing n) = omega arith

pub status_within : (ended : Result ℕ Fault) → IfOk ended (λ status. status ≤ 1) →
    status_in ended ≤ 3
status_within (Ok status) h = omega (arith, h)
status_within (Err f) h = within f
