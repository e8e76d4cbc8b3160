use Rattle.std.proofs.lemmas.Result.{IfErr-weaker, IfOk-weaker}
use Rattle.sqlite_wal.specs.Files.{image_at}
use Rattle.sqlite.specs.Files.{file_state}
use Rattle.acq_sql_rows.specs.Rows.{version}
use Rattle.acqd.proofs.FoundIn.{found_in}
use Rattle.acqd.proofs.open_book.open_book.Goals as goal

pub returns-in-Ok-clause-same : goal.returns-in-Ok-clause-same
returns-in-Ok-clause-same g c =
    IfOk-weaker c.opened.result _ _
    (λ book same clean t files. same clean t
    (found_in version (image_at g.D.Start) (file_state c.in-Ok.connection) t
    c.in-Ok.ensures.opened c.in-Ok.ensures.found files))
    c.opened.ensures.same

pub returns-in-Ok-clause-accepts : goal.returns-in-Ok-clause-accepts
returns-in-Ok-clause-accepts g c =
    IfErr-weaker c.opened.result _ _
    (λ none accepts clean t files. accepts clean t
    (found_in version (image_at g.D.Start) (file_state c.in-Ok.connection) t
    c.in-Ok.ensures.opened c.in-Ok.ensures.found files))
    c.opened.ensures.accepts
