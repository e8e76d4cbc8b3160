-- What stands at the front of bytes, and how a frame is written.
use Rattle.std.specs.Prelude.{◌≡◌, ◌⊎◌, ◌<◌, ℕ, true, List, [], ◌++◌, take, length, Result, Ok, Err}
use Rattle.acq_link.specs.Frames.{frame, fits_frame, is_partial}

-- a whole frame of this message, and then the rest
pub record BeginsWithFrame (bytes message rest : List ℕ) : Type 0 where
  pub whole : bytes ≡ frame message ++ rest
  pub fits : fits_frame message ≡ true

-- nothing, or a frame that is begun
abbrev pub MayBecomeFrame : List ℕ → Type 0
MayBecomeFrame bytes = (bytes ≡ []) ⊎ (is_partial bytes ≡ true)

-- the frame of a message went out, or its first n bytes
abbrev pub SendsFrame : List ℕ → List ℕ → List ℕ → Result (Unit {0}) ℕ → Type 0
SendsFrame message old new (Ok u) = new ≡ old ++ frame message
SendsFrame message old new (Err n) =
    (n < length (frame message)) × (new ≡ old ++ take n (frame message))
