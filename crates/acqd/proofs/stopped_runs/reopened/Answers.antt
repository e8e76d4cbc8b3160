use Rattle.std.proofs.Math.Logic.{∥∥₁_map}
use Rattle.std.proofs.lemmas.Result.{IfErr-weaker, IfOk-weaker}
use Rattle.sqlite_wal.specs.Files.{image_at}
use Rattle.acqd.proofs.RunsLeft.{no_refusal}
use Rattle.acqd.proofs.stopped_runs.reopened.Goals as goal

pub returns-clause-opens : goal.returns-clause-opens
returns-clause-opens g c clean opened may =
    let left = c.stopped_run-left.ensures clean opened (image_at g.E.Start) may in
    IfOk-weaker c.open_book.result _ _
    (λ book same sure. ∥∥₁_map left
    (λ found. (found.0, found.1, same sure found.0 found.3 found.2)))
    c.open_book.ensures.same

pub returns-clause-accepts : goal.returns-clause-accepts
returns-clause-accepts g c clean opened may =
    let left = c.stopped_run-left.ensures clean opened (image_at g.E.Start) may in
    IfErr-weaker c.open_book.result _ _
    (λ none accepts sure. no_refusal none.fault
    (∥∥₁_map left (λ found. accepts sure found.0 found.3)))
    c.open_book.ensures.accepts
