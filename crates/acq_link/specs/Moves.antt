-- What one read or one write moves, and how failed ones are counted.
use Rattle.std.specs.Prelude.{◌≡◌, ◌+◌, ℕ, List, ◌++◌, take, Option, Some, None, Result}
use Rattle.std.specs.Prelude.{MatchResult}

-- a read gave the first n bytes of the buffer at `Ok(n)`, and none at `Err`
abbrev pub Receives : {E : Type 0} → List ℕ → List ℕ → Result ℕ E → List ℕ → Type 0
Receives old new r buffer = MatchResult r (λ n. new ≡ old ++ take n buffer) (λ _. new ≡ old)

-- the first n of the bytes went out at `Ok(n)`, and none at `Err`
abbrev pub Sends : {E : Type 0} → List ℕ → List ℕ → Result ℕ E → List ℕ → Type 0
Sends old new r bytes = MatchResult r (λ n. new ≡ old ++ take n bytes) (λ _. new ≡ old)

-- a failed call counts as one, and no other call counts
abbrev pub CountsFailure : {T E : Type 0} → ℕ → ℕ → Result T E → Type 0
CountsFailure old new r = MatchResult r (λ _. new ≡ old) (λ _. new ≡ old + 1)

-- where it is known what was to come, all of it came
abbrev pub TakesAll : Option (List ℕ) → List ℕ → List ℕ → Type 0
TakesAll None old new = Unit {0}
TakesAll (Some bytes) old new = new ≡ old ++ bytes
