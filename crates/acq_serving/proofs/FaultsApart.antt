-- What faults of the stream of frames, and of a message, are not.
use Rattle.std.proofs.Common.{◌≡◌, Err, refl}
use Rattle.acq_link.specs.declared.deframe_fault.DeframeFault as deframe
use Rattle.acq_front.specs.declared.front_fault.FrontFault as fault
use Rattle.acq_front.specs.Faults.{AtEnd, failed_reads, failed_writes, of_stream}
use Rattle.acq_serving.specs.Sending.{OfMessage}

-- ---- a fault of the stream of frames

pub stream_unended : (p : Type 0) (e : deframe.DeframeFault) → AtEnd (Err (of_stream e)) p
stream_unended p deframe.TheVariants.Memory = tt
stream_unended p deframe.TheVariants.BadLength = tt

pub stream_unread : (X : Type 0) (e : deframe.DeframeFault) →
    failed_reads {X = X} (Err (of_stream e)) ≡ 0
stream_unread X deframe.TheVariants.Memory = refl
stream_unread X deframe.TheVariants.BadLength = refl

pub stream_unwritten : (X : Type 0) (e : deframe.DeframeFault) →
    failed_writes {X = X} (Err (of_stream e)) ≡ 0
stream_unwritten X deframe.TheVariants.Memory = refl
stream_unwritten X deframe.TheVariants.BadLength = refl

-- ---- a fault of a message

pub message_unended : (p : Type 0) (f : fault.FrontFault) → OfMessage (Err f) → AtEnd (Err f) p
message_unended p fault.TheVariants.Memory h = tt
message_unended p fault.TheVariants.Store h = tt
message_unended p fault.TheVariants.BadLength h = tt
message_unended p fault.TheVariants.Ended h = absurd h
message_unended p (fault.TheVariants.Undecodable u) h = tt
message_unended p fault.TheVariants.Read h = tt
message_unended p (fault.TheVariants.Write n) h = tt

pub message_unread : (X : Type 0) (f : fault.FrontFault) → OfMessage (Err f) →
    failed_reads {X = X} (Err f) ≡ 0
message_unread X fault.TheVariants.Memory h = refl
message_unread X fault.TheVariants.Store h = refl
message_unread X fault.TheVariants.BadLength h = refl
message_unread X fault.TheVariants.Ended h = refl
message_unread X (fault.TheVariants.Undecodable u) h = refl
message_unread X fault.TheVariants.Read h = absurd h
message_unread X (fault.TheVariants.Write n) h = refl
