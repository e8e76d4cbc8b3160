-- What contracts see of a book in memory.
use Rattle.std.specs.Prelude.{ℕ}
use Rattle.acq_core.specs.Tables.{Tables}
use Rattle.acq_list_book.specs.declared.group.Group.{Group}
use Rattle.acq_list_book.specs.declared.group.Group.TheVariants.{NotBegun, Begun, GivenUp}

pub record Listed : Type 0 where
  pub tables : Tables
  pub group : Group

-- a group that was given up counts as a fault of the store: nothing can undo what it changed
abbrev pub faults_of : Group → ℕ
faults_of NotBegun = 0
faults_of Begun = 0
faults_of GivenUp = 1
