use Rattle.std.proofs.Common.{refl}
use Rattle.std.proofs.Math.Logic.{∥∥₁_map}
use Rattle.sqlite.proofs.Theorems.{opens_again}
use Rattle.acq_sql.specs.Opened.{tables_left}
use Rattle.acq_sql.proofs.laws.a_stop_leaves_a_book.Goals as goal

pub returns-clause-left : goal.returns-clause-left
returns-clause-left g c clean books left may =
    let sure = c.into_store.ensures in
    ∥∥₁_map (opens_again c.into_store.result (sure.numbered clean) (sure.sound clean) left may)
    (λ found.
    let db = found.0 in
    let was = sure.leaves db found.1 in
    (tables_left db, (db, was, refl), (db, found.2, books db was)))
