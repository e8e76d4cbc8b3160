-- What went over a link so far.
use Rattle.std.specs.Prelude.{◌≡◌, ◌+◌, [], ◌++◌}
use Rattle.acq_link.specs.declared.call.Call.{Call}
use Rattle.acq_link.specs.declared.transcript.Transcript.{Transcript}
use Rattle.acq_link.specs.Call.{moved_bytes, failed_calls}

-- nothing went over the link yet
pub record IsFresh (transcript : Transcript) : Type 0 where
  pub bytes : transcript.bytes ≡ []
  pub failures : transcript.failures ≡ 0

-- one more call stands at the end
pub record IsAfter (old : Transcript) (call : Call) (new : Transcript) : Type 0 where
  pub bytes : new.bytes ≡ old.bytes ++ moved_bytes call
  pub failures : new.failures ≡ old.failures + failed_calls call
