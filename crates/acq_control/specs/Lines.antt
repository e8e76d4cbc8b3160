-- Lines out of a stream that comes in pieces. Each ends in a line feed.
use Rattle.std.specs.Prelude.{◌≡◌, ◌==◌, ℕ, Bool, not, true, List, [], ◌∷◌, ◌++◌}
use Rattle.std.specs.List.{All, flat_map, list_all}

-- the byte that ends a line
abbrev pub line_feed : ℕ
line_feed = 10

abbrev pub is_in_line : ℕ → Bool
is_in_line byte = not (byte == line_feed)

-- no line ends within these bytes
abbrev pub IsInLine : List ℕ → Type 0
IsInLine bytes = list_all is_in_line bytes ≡ true

-- a line as it comes
abbrev pub ended : List ℕ → List ℕ
ended line = line ++ line_feed ∷ []

-- lines as they come, one after the other
abbrev pub all_ended : List (List ℕ) → List ℕ
all_ended lines = flat_map ended lines

-- the most bytes of a line, with its line feed
abbrev pub longest_line : ℕ
longest_line = 16384

-- Bytes are these lines, and behind them a rest.
pub record LinesThen (bytes : List ℕ) (lines : List (List ℕ)) (rest : List ℕ) : Type 0 where
  pub each : All IsInLine lines
  pub whole : bytes ≡ all_ended lines ++ rest

-- Bytes begin with this line, and behind it stands a rest.
pub record BeginsWithLine (bytes line rest : List ℕ) : Type 0 where
  pub within : IsInLine line
  pub whole : bytes ≡ ended line ++ rest
