-- What one call moved over a link.
use Rattle.std.specs.Prelude.{ℕ, List, []}
use Rattle.acq_link.specs.declared.call.Call.{Call}
use Rattle.acq_link.specs.declared.call.Call.TheVariants.{Moved, Failed}

-- the bytes that the call moved
abbrev pub moved_bytes : Call → List ℕ
moved_bytes (Moved bytes) = bytes.now
moved_bytes Failed = []

-- 1 for a call that failed
abbrev pub failed_calls : Call → ℕ
failed_calls (Moved bytes) = 0
failed_calls Failed = 1
