-- Numbers in decimal digits of a fixed length.
use Rattle.std.specs.Prelude.{ℕ, zero, suc, ◌+◌, ◌/◌, ◌%◌, List, [], ◌∷◌, ◌++◌}

-- so many digits, with zeros in front
unfoldable pub zero_padded : ℕ → ℕ → List ℕ
zero_padded zero number = []
zero_padded (suc places) number = zero_padded places (number / 10) ++ (48 + number % 10) ∷ []
