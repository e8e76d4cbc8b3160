-- Why a book is not opened, why what is pending in it is not answered, and why no text of it is
-- written.
use Rattle.std.specs.Prelude.{◌≡◌, ◌⊎◌}
use Rattle.card_no.specs.declared.range_fault.RangeFault.{RangeFault}
use Rattle.acq_faults.specs.Faults.{IsOfAnswers, IsReporting, of_out, of_ranges}
use Rattle.acq_faults.specs.declared.fault.Fault.{Fault}
use Rattle.acq_faults.specs.declared.fault.Fault.TheVariants.{Memory, Store, NotABook}
use Rattle.acq_faults.specs.declared.fault.Fault.TheVariants.{OtherVersion, Read}
use Rattle.acq_out.specs.declared.out_fault.OutFault.{OutFault}

-- why a book was not opened or made: memory, its store, or that the file holds none of this version
abbrev pub IsOpening : Fault → Type 0
IsOpening Memory = Unit {0}
IsOpening Store = Unit {0}
IsOpening NotABook = Unit {0}
IsOpening (OtherVersion version) = Unit {0}
IsOpening other = ⊥

-- why a book was not closed: memory, or its store
abbrev pub IsClosing : Fault → Type 0
IsClosing Memory = Unit {0}
IsClosing Store = Unit {0}
IsClosing other = ⊥

-- why what is pending was not answered: the book was not opened, the file of issuers' answers gave
-- none, or the answers were not written whole
abbrev pub IsOfPending : Fault → Type 0
IsOfPending fault = IsOpening fault ⊎ IsOfAnswers fault ⊎ IsReporting fault

-- why a text of a book was not written: it was not opened, what was asked for can't be given, or
-- the text was not written whole
abbrev pub IsOfText : Fault → Type 0
IsOfText fault = IsOpening fault ⊎ IsReporting fault

-- why the file of events gave none, as the command tells it
abbrev pub IsOfEvents : Fault → Type 0
IsOfEvents fault = (cause : OutFault) × (fault ≡ of_out cause)

-- why the file of a list of ranges gave none, as the command tells it
abbrev pub IsOfRanges : Fault → Type 0
IsOfRanges fault = ((cause : RangeFault) × (fault ≡ of_ranges cause)) ⊎ (fault ≡ Read)
