-- How the texts of a host are read: a status is lines, each of a key and a value.
use Rattle.std.specs.Prelude.{◌==◌, ℕ, List, [], ◌∷◌, drop, length, Option, Some, None}
use Rattle.std.specs.Prelude.{nat_eq, if◌then◌else◌}
use Rattle.std.specs.List.{filter_map, slice_split, starts_with}

-- the lines of a text: what stands between its line feeds
abbrev pub lines_of : List ℕ → List (List ℕ)
lines_of text = slice_split (λ byte. byte == 10) text

-- what stands behind this beginning of a line, if it begins so
abbrev pub behind : List ℕ → List ℕ → Option (List ℕ)
behind beginning line =
    if starts_with nat_eq line beginning then Some (drop (length beginning) line) else None

-- of the first line that begins so
abbrev pub first_behind : List ℕ → List (List ℕ) → Option (List ℕ)
first_behind beginning [] = None
first_behind beginning (line ∷ lines) =
    elim (behind beginning line) [ Some rest ↦ Some rest | None ↦ first_behind beginning lines ]

-- of all lines that do
abbrev pub all_behind : List ℕ → List (List ℕ) → List (List ℕ)
all_behind beginning lines = filter_map (behind beginning) lines
