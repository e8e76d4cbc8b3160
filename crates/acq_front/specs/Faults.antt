-- The faults' numbers and texts, what faults of the parts are to a connection, and how many reads
-- and writes failed.
use Rattle.std.specs.Prelude.{◌≡◌, ◌⊎◌, ℕ, List, ◌++◌, codes, Result, Ok, Err}
use Rattle.std.specs.Fmt.{decimal}
use Rattle.acq_link.specs.declared.deframe_fault.DeframeFault as deframe
use Rattle.iso_codec.specs.FaultTexts.{number_of_fault, element_of_fault}
use Rattle.acq_book.specs.Promise.{HasRisen}
use Rattle.acq_book.specs.declared.book_fault.BookFault as book
use Rattle.acq_front.specs.declared.front_fault.FrontFault.{FrontFault}
use Rattle.acq_front.specs.declared.front_fault.FrontFault.TheVariants.{Memory, Store}
use Rattle.acq_front.specs.declared.front_fault.FrontFault.TheVariants.{BadLength, Ended}
use Rattle.acq_front.specs.declared.front_fault.FrontFault.TheVariants.{Undecodable, Read, Write}

abbrev pub number_of : FrontFault → ℕ
number_of Memory = 1
number_of Store = 2
number_of BadLength = 50
number_of Ended = 51
number_of (Undecodable fault) = 52
number_of Read = 53
number_of (Write n) = 54

-- the fault as printed lines have it: its number, its name and its values
abbrev pub text_of : FrontFault → List ℕ
text_of Memory = codes "1 Memory"
text_of Store = codes "2 Store"
text_of BadLength = codes "50 BadLength"
text_of Ended = codes "51 Ended"
text_of (Undecodable fault) =
    codes "52 Undecodable " ++ decimal (number_of_fault fault) ++ codes " "
    ++ decimal (element_of_fault fault)
text_of Read = codes "53 Read"
text_of (Write n) = codes "54 Write " ++ decimal n

-- what a book's fault is
abbrev pub of_book : book.BookFault → FrontFault
of_book book.TheVariants.Memory = Memory
of_book book.TheVariants.Store = Store

-- what a fault of the stream of frames is
abbrev pub of_stream : deframe.DeframeFault → FrontFault
of_stream deframe.TheVariants.Memory = Memory
of_stream deframe.TheVariants.BadLength = BadLength

-- how many reads failed
abbrev pub failed_reads : {X : Type 0} → Result X FrontFault → ℕ
failed_reads (Err Read) = 1
failed_reads other = 0

-- how many writes failed
abbrev pub failed_writes : {X : Type 0} → Result X FrontFault → ℕ
failed_writes (Err (Write n)) = 1
failed_writes other = 0

-- The count of failed calls of the store has risen where the store's fault is told, and only there.
abbrev pub CountsStore : {X : Type 0} → Result X FrontFault → ℕ → ℕ → Type 0
CountsStore (Err Store) old new = HasRisen old new
CountsStore other old new = new ≡ old

-- The store's fault is told where a call of it failed, or where this is so; and unless it is told,
-- no call of it failed.
abbrev pub TellsStore : {X : Type 0} → Result X FrontFault → ℕ → ℕ → Type 0 → Type 0
TellsStore (Err Store) old new other = HasRisen old new ⊎ other
TellsStore result old new other = new ≡ old

-- this holds where the store's fault is told
abbrev pub IfStore : {X : Type 0} → Result X FrontFault → Type 0 → Type 0
IfStore (Err Store) p = p
IfStore other p = Unit {0}

-- this holds where neither memory nor the store stopped it
abbrev pub UnlessRefused : {X : Type 0} → Result X FrontFault → Type 0 → Type 0
UnlessRefused (Err Memory) p = Unit {0}
UnlessRefused (Err Store) p = Unit {0}
UnlessRefused other p = p

-- this holds where the input ended
abbrev pub AtEnd : Result (Unit {0}) FrontFault → Type 0 → Type 0
AtEnd (Ok u) p = p
AtEnd (Err Ended) p = p
AtEnd other p = Unit {0}
