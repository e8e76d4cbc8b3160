-- What reading records results in.
use Rattle.std.specs.Prelude.{◌≡◌, ℕ, List, Result, Ok, Err}
use Rattle.acq_out.specs.Records.{Spelling, values_of_text}
use Rattle.acq_out.specs.declared.records.record_fault.RecordFault.{RecordFault}
use Rattle.acq_out.specs.declared.records.record_fault.RecordFault.TheVariants.{Memory, Read, BadRecord}

module _ {V : Type 0} (spelled : Spelling V) where
  -- What a text that was read gave: its values, or the number of its first record out of form; of
  -- want of memory and of a read that failed nothing is said.
  abbrev pub ReadsValues : List ℕ → Result (List V) RecordFault → Type 0
  ReadsValues text (Ok values) = values_of_text spelled text ≡ Ok values
  ReadsValues text (Err (BadRecord n)) = values_of_text spelled text ≡ Err n
  ReadsValues text (Err Memory) = Unit {0}
  ReadsValues text (Err Read) = Unit {0}
