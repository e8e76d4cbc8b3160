-- What is found in files that hold a book.
use Rattle.std.proofs.Common.{ℕ, subst, sym}
use Rattle.sqlite.specs.Start.{FindsIn}
use Rattle.sqlite.specs.State.{State, HasCleanDisk, IsLive, Opens}
use Rattle.sqlite_wal.specs.Recovery.{Image}
use Rattle.acq_core.specs.Tables.{Tables}
use Rattle.acq_sql_rows.specs.Standing.{HoldsAfterOf}
use Rattle.acq_sql_opening.specs.Files.{FilesHoldOf}
use Rattle.acqd.specs.Found.{IsFound}

pub found_in : (version : ℕ) (image : Image) (s : State) (t : Tables)
    → (HasCleanDisk s → Opens s × IsLive s) → (HasCleanDisk s → FindsIn image s)
    → FilesHoldOf version image t → IsFound version s t
found_in version image s t opened finds files = λ clean. (
  (opened clean).0,
  (opened clean).1,
  subst (HoldsAfterOf version t) (sym ((finds clean).holds files.0 files.1)) files.2,
)
