-- Books in files.
use Rattle.std.specs.Prelude.{ℕ}
use Rattle.sqlite_trees.specs.Tree.{Trees}
use Rattle.sqlite_wal.specs.Recovery.{Image}
use Rattle.sqlite.specs.Files.{HoldsDatabase}
use Rattle.acq_core.specs.Tables.{Tables}
use Rattle.acq_sql_rows.specs.Rows.{version}
use Rattle.acq_sql_rows.specs.Standing.{HoldsAfterOf}

-- The database file and its log hold a book of this version at these tables.
abbrev pub FilesHoldOf : ℕ → Image → Tables → Type 0
FilesHoldOf version image t = (db : Trees) × HoldsDatabase image db × HoldsAfterOf version t db

-- the same of the version in force
abbrev pub FilesHold : Image → Tables → Type 0
FilesHold = FilesHoldOf version
