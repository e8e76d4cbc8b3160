-- Why a book was not closed is among why it was not opened or made.
use Rattle.acq_program.specs.BookFaults.{IsClosing, IsOpening}
use Rattle.acq_faults.specs.declared.fault.Fault.{Fault}
use Rattle.acq_faults.specs.declared.fault.Fault.TheVariants as fault

pub closing_is_opening : (f : Fault) → IsClosing f → IsOpening f
closing_is_opening fault.Memory h = h
closing_is_opening fault.Store h = h
closing_is_opening fault.BadRange h = h
closing_is_opening (fault.Overlap low high) h = h
closing_is_opening (fault.BadRecord n) h = h
closing_is_opening fault.NoSuchMerchant h = h
closing_is_opening fault.NotABook h = absurd h
closing_is_opening (fault.OtherVersion v) h = absurd h
closing_is_opening fault.BadLength h = h
closing_is_opening fault.Ended h = h
closing_is_opening (fault.Undecodable f) h = h
closing_is_opening fault.Read h = h
closing_is_opening (fault.Write n) h = h
closing_is_opening fault.Silent h = h
closing_is_opening fault.NoProxyHeader h = h
closing_is_opening fault.DayNotOver h = h
closing_is_opening (fault.StillPending n) h = h
closing_is_opening (fault.BadLine n) h = h
closing_is_opening (fault.OtherDay day) h = h
closing_is_opening (fault.BadMessage line cause) h = h
closing_is_opening (fault.RowsMissing n) h = h
