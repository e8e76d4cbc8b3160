use Rattle.std.proofs.lemmas.Result.{IfOk-weaker}
use Rattle.sqlite_wal.specs.Files.{image_at}
use Rattle.sqlite.specs.Files.{file_state}
use Rattle.acq_sql_rows.specs.Rows.{version_of_six_digits}
use Rattle.acqd.proofs.FoundIn.{found_in}
use Rattle.acqd.proofs.open_book.migrate_book.Goals as goal

pub returns-in-Ok-clause-done : goal.returns-in-Ok-clause-done
returns-in-Ok-clause-done g c =
    IfOk-weaker c.migrated.result _ _
    (λ book done clean t files. done clean t
    (found_in version_of_six_digits (image_at g.D.Start) (file_state c.in-Ok.connection) t
    c.in-Ok.ensures.opened c.in-Ok.ensures.found files))
    c.migrated.ensures.done
