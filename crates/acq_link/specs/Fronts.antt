-- What stands at the front of bytes.
use Rattle.std.specs.Prelude.{◌≡◌, ℕ, true, List}
use Rattle.acq_link.specs.Frames.{has_bad_length}
use Rattle.acq_link.specs.FramesAt.{BeginsWithFrame, MayBecomeFrame}
use Rattle.acq_link.specs.declared.front.Front.{Front}
use Rattle.acq_link.specs.declared.front.Front.TheVariants.{Frame, Partial, BadLength}

-- A whole frame and the rest; or nothing yet, but more bytes may make it whole; or a bad length.
abbrev pub IsFront : List ℕ → Front → Type 0
IsFront bytes (Frame message rest) = BeginsWithFrame bytes message.now rest.now
IsFront bytes Partial = MayBecomeFrame bytes
IsFront bytes BadLength = has_bad_length bytes ≡ true
