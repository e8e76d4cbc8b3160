-- What a visitor saw of the rows of a walk. `sees v row more w` says that a row made the visitor w
-- of v, and whether it wanted more.
use Rattle.std.specs.Prelude.{◌≡◌, ◌⊎◌, ℕ, Bool, true, false, List, [], ◌∷◌, take}

-- it saw all of these rows, one at a time and in order, and wanted more after each
abbrev pub Saw : {Row V : Type 0} → (V → Row → Bool → V → Type 0) → List Row → V → V → Type 0
Saw sees [] v w = v ≡ w
Saw {Row} {V} sees (row ∷ rows) v w =
    (between : V) × sees v row true between × Saw sees rows between w

-- it saw them to the last, or to the first after which it wanted no more
abbrev pub SawAll : {Row V : Type 0} → (V → Row → Bool → V → Type 0) → List Row → V → V → Type 0
SawAll sees [] v w = v ≡ w
SawAll {Row} {V} sees (row ∷ rows) v w =
    ((between : V) × sees v row true between × SawAll sees rows between w) ⊎ sees v row false w

-- it saw some of the first
abbrev pub SawSome : {Row V : Type 0} → (V → Row → Bool → V → Type 0) → List Row → V → V → Type 0
SawSome sees rows v w = (n : ℕ) × Saw sees (take n rows) v w

-- It saw rows one at a time, whichever they were: in a walk that succeeded to the last, or to the
-- first after which it wanted no more; in one that failed only such after which it wanted more.
abbrev pub SawRows : {Row V : Type 0} → (V → Row → Bool → V → Type 0) → V → V → Bool → Type 0
SawRows {Row} sees v w true = (rows : List Row) × SawAll sees rows v w
SawRows {Row} sees v w false = (rows : List Row) × Saw sees rows v w
