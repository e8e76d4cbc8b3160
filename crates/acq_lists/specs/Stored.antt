-- What callers see of a list in memory.
use Rattle.std.specs.Prelude.{ℕ, List}

-- the rows, and how many more take no memory
pub record Stored (X : Type 0) : Type 0 where
  pub rows : List X
  pub room : ℕ
