-- Why reading the records of a text stopped.
use Rattle.std.specs.Prelude.{◌≡◌, ℕ, List, Err, ◌⊎◌}
use Rattle.csv.specs.declared.error.ErrorKind as kind
use Rattle.card_no.specs.RangeFiles.{ranges_of_text, StopsBefore}
use Rattle.card_no.specs.declared.range_fault.RangeFault.TheVariants.{Memory}
use Rattle.card_no.specs.declared.read_stop.ReadStop.{ReadStop}
use Rattle.card_no.specs.declared.read_stop.ReadStop.TheVariants.{Fault, Unread}

-- the fault of the text's first record refused, or memory ran out; or a record could not be had
abbrev pub Stops : List ℕ → ReadStop → Type 0
Stops text (Fault fault) = (ranges_of_text text ≡ Err fault) ⊎ (fault ≡ Memory)
Stops text (Unread n) = StopsBefore n text

-- why record n could not be had, by the kind of the error: want of memory, or else a read
abbrev pub stop_of : kind.ErrorKind → ℕ → ReadStop
stop_of kind.TheVariants.OutOfMemory n = Fault Memory
stop_of other n = Unread n
