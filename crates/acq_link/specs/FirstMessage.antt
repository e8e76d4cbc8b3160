-- The message of the frame in front of some bytes.
use Rattle.std.specs.Prelude.{ℕ, Bool, ◌&&◌, nat_lt, List, ◌∷◌, drop, take}
use Rattle.std.specs.List.{list_all}
use Rattle.acq_link.specs.Frames.{has_frame, stated_length}

abbrev pub is_byte : ℕ → Bool
is_byte b = nat_lt b 256

-- the length that the first two bytes state
abbrev pub length_in_front : List ℕ → ℕ
length_in_front (high ∷ low ∷ rest) = stated_length high low
length_in_front short = 0

-- a whole frame stands in front
abbrev pub begins_with_message : List ℕ → Bool
begins_with_message bytes = has_frame bytes && list_all is_byte (take 2 bytes)

-- its message
abbrev pub first_message : List ℕ → List ℕ
first_message bytes = take (length_in_front bytes) (drop 2 bytes)

-- what stands behind it
abbrev pub behind_message : List ℕ → List ℕ
behind_message bytes = drop (length_in_front bytes) (drop 2 bytes)
