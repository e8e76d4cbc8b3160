-- What is kept under keys, seen as a function from keys to values.
use Rattle.std.specs.Prelude.{◌≡◌, ◌⊎◌, ℕ, ◌+◌, Bool, true, false, Option, Some}

-- of each value that is kept, this is so
abbrev pub SaysOf : {K V : Type 0} → (K → V → Type 0) → (K → Option V) → Type 0
SaysOf {K} {V} says kept = (key : K) (value : V) → kept key ≡ Some value → says key value

-- what was kept before is kept now
abbrev pub Keeps : {K V : Type 0} → (old new : K → Option V) → Type 0
Keeps {K} {V} old new = (key : K) (value : V) → old key ≡ Some value → new key ≡ Some value

-- what is kept now was kept before, or it is this value under this key
abbrev pub Notes : {K V : Type 0} → (K → K → Bool) → (old new : K → Option V) → K → V → Type 0
Notes {K} {V} eq old new key value =
    (other : K) (kept : V) → new other ≡ Some kept
    → (old other ≡ Some kept) ⊎ ((eq key other ≡ true) × (kept ≡ value))

-- what is kept under this key is this value, and under others what was kept before
abbrev pub Sets : {K V : Type 0} → (K → K → Bool) → (old new : K → Option V) → K → V → Type 0
Sets {K} {V} eq old new key value =
    (other : K) (kept : V) → new other ≡ Some kept
    → ((eq key other ≡ false) × (old other ≡ Some kept))
    ⊎ ((eq key other ≡ true) × (kept ≡ value))

-- nothing is kept under this key, and under others what was kept before
abbrev pub Forgets : {K V : Type 0} → (K → K → Bool) → (old new : K → Option V) → K → Type 0
Forgets {K} {V} eq old new key =
    (other : K) (kept : V) → new other ≡ Some kept
    → (eq key other ≡ false) × (old other ≡ Some kept)

-- the number under this key is one more, if one was kept, and under others it is as it was
abbrev pub CountsOneMore : {K : Type 0} → (K → K → Bool) → (old new : K → Option ℕ) → K → Type 0
CountsOneMore {K} eq old new key =
    (other : K) (kept : ℕ) → new other ≡ Some kept
    → ((eq key other ≡ false) × (old other ≡ Some kept))
    ⊎ ((eq key other ≡ true) × ((n : ℕ) × (old key ≡ Some n) × (kept ≡ 1 + n)))
