-- Frames on a link (own profile): a message of 1 to 4,096 bytes behind its length in two bytes,
-- high byte first.
use Rattle.std.specs.Prelude.{◌≡◌, ◌+◌, ◌*◌, ◌/◌, ◌%◌, ℕ, Bool, true, false, not, ◌&&◌}
use Rattle.std.specs.Prelude.{nat_lt, nat_le, List, [], ◌∷◌, ◌++◌, length}
use Rattle.std.specs.List.{list_all}

-- the most bytes of a message
abbrev pub longest : ℕ
longest = 4096

abbrev pub fits_length : ℕ → Bool
fits_length n = nat_lt 0 n && nat_le n longest

abbrev pub fits_frame : List ℕ → Bool
fits_frame message = fits_length (length message)

abbrev pub fit_frames : List (List ℕ) → Bool
fit_frames messages = list_all fits_frame messages

-- the two bytes of a length
abbrev pub length_bytes : ℕ → List ℕ
length_bytes n = n / 256 ∷ n % 256 ∷ []

abbrev pub frame : List ℕ → List ℕ
frame message = length_bytes (length message) ++ message

-- the frames of the messages, one after another
abbrev pub framed : List (List ℕ) → List ℕ
framed [] = []
framed (message ∷ messages) = frame message ++ framed messages

-- the bytes are the frames of these messages
pub record Frames (bytes : List ℕ) (messages : List (List ℕ)) : Type 0 where
  pub each : fit_frames messages ≡ true
  pub whole : bytes ≡ framed messages

-- how many bytes follow, as the first two say
abbrev pub stated_length : ℕ → ℕ → ℕ
stated_length high low = 256 * high + low

-- a frame that is begun and not whole: one byte of its length, or the length and fewer bytes than
-- it states
abbrev pub is_partial : List ℕ → Bool
is_partial [] = false
is_partial (high ∷ []) = true
is_partial (high ∷ low ∷ message) =
    fits_length (stated_length high low) && nat_lt (length message) (stated_length high low)

-- a length of 0 or above the most stands at the front
abbrev pub has_bad_length : List ℕ → Bool
has_bad_length [] = false
has_bad_length (high ∷ []) = false
has_bad_length (high ∷ low ∷ message) = not (fits_length (stated_length high low))

-- a whole frame stands at the front
abbrev pub has_frame : List ℕ → Bool
has_frame [] = false
has_frame (high ∷ []) = false
has_frame (high ∷ low ∷ message) =
    fits_length (stated_length high low) && nat_le (stated_length high low) (length message)

-- whole frames of these messages, and then the rest
pub record FramesThen (bytes : List ℕ) (messages : List (List ℕ)) (rest : List ℕ) : Type 0 where
  pub each : fit_frames messages ≡ true
  pub whole : bytes ≡ framed messages ++ rest
