-- What bytes that come or go leave, and answers that come.
use Rattle.std.specs.Prelude.{◌≡◌, ℕ, List}
use Rattle.std.specs.List.{AllByRecursion}
use Rattle.acq_rounds.specs.Acts.{Act, Connection, Follows, Serves, numbers}

-- a connection goes on: it is the same one, and follows whatever acts it followed
pub record GoesOn (old new : Connection) : Type 0 where
  pub same : new.number ≡ old.number
  pub follows : (acts : List Act) → Follows acts old → Follows acts new

-- each of them goes on
pub record AllGoOn (old new : List Connection) : Type 0 where
  pub same : numbers new ≡ numbers old
  pub follow : (acts : List Act) → AllByRecursion (Follows acts) old
      → AllByRecursion (Follows acts) new

-- they stand in another order, or have gone on
pub record Turned (old new : List Connection) : Type 0 where
  pub serves : (acts : List Act) (ended : List Connection) (count : ℕ)
      → Serves acts ended old count → Serves acts ended new count
