-- What holds unless memory or the store refused something.
use Rattle.std.proofs.Common.{Result, Ok, Err}
use Rattle.acq_front.specs.Faults.{UnlessRefused}
use Rattle.acq_front.specs.declared.front_fault.FrontFault as fault

pub unless_refused : {X : Type 0} (r : Result X fault.FrontFault) {p : Type 0} → p →
    UnlessRefused r p
unless_refused (Ok x) h = h
unless_refused (Err fault.TheVariants.Memory) h = tt
unless_refused (Err fault.TheVariants.Store) h = tt
unless_refused (Err fault.TheVariants.BadLength) h = h
unless_refused (Err fault.TheVariants.Ended) h = h
unless_refused (Err (fault.TheVariants.Undecodable u)) h = h
unless_refused (Err fault.TheVariants.Read) h = h
unless_refused (Err (fault.TheVariants.Write n)) h = h
