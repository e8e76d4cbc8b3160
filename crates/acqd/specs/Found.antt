-- What an open finds of a book.
use Rattle.std.specs.Prelude.{ℕ}
use Rattle.sqlite.specs.State.{State, HasCleanDisk, IsLive, Opens}
use Rattle.acq_core.specs.Tables.{Tables}
use Rattle.acq_sql_rows.specs.Standing.{HoldsAfterOf}

-- where the disk gave back what was written, an open of a live store found a book of this version
-- at these tables
abbrev pub IsFound : ℕ → State → Tables → Type 0
IsFound version s t =
    HasCleanDisk s → Opens s × IsLive s × HoldsAfterOf version t s.committed.trees
