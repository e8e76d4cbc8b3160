-- What passed over the streams of a run, and what a book was and became.
use Rattle.std.specs.Prelude.{ℕ, List}
use Rattle.acq_core.specs.Tables.{Tables}
use Rattle.acq_front.specs.Stops.{Left}

-- what a source had given, or a sink had taken, before and after
pub record Stream : Type 0 where
  pub before : List ℕ
  pub after : List ℕ

-- a book before and after, what is left of it, and how many events it took at once
pub record Course (S : Type 0) : Type 1 where
  pub left : S → Left
  pub group : ℕ
  pub old : S
  pub new : S

module _ {S : Type 0} where
  -- its tables before, and what is left of it after
  abbrev pub tables_before : Course S → Tables
  tables_before book = (book.left book.old).tables

  abbrev pub left_after : Course S → Left
  left_after book = book.left book.new
