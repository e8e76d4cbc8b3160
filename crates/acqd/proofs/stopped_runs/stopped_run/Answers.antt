use Rattle.std.proofs.Math.Logic.{∥∥₁_map}
use Rattle.acqd.proofs.stopped_runs.stopped_run.Goals as goal

pub returns : goal.returns
returns g c clean opened left may =
    let honest = c.a_stop_leaves_a_book.ensures.honest clean in
    ∥∥₁_map
    (c.a_stop_leaves_a_book.ensures.left clean
    (c.given_up-book.ensures.books honest opened) left may)
    (λ found.
    let so = c.given_up-book.ensures.left honest opened found.0 found.1 in
    (found.0, so.0, so.1, found.2))
