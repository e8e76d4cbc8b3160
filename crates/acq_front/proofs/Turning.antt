-- What a fault of a stream of frames tells of the store.
use Rattle.std.proofs.Common.{◌≡◌, ℕ, Err}
use Rattle.acq_link.specs.declared.deframe_fault.DeframeFault as deframe
use Rattle.acq_front.specs.Faults.{TellsStore, of_stream}

-- a fault of the stream of frames is none of the store
pub stream_unstored : (X p : Type 0) (e : deframe.DeframeFault) (a b : ℕ) → b ≡ a →
    TellsStore {X = X} (Err (of_stream e)) a b p
stream_unstored X p deframe.TheVariants.Memory a b same = same
stream_unstored X p deframe.TheVariants.BadLength a b same = same
