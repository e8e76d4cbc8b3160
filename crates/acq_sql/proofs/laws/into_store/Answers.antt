use Rattle.std.proofs.Common.{arith, subst}
use Rattle.sqlite.specs.Held.{Held}
use Rattle.sqlite_trees.specs.View.{IsClean}
use Rattle.acq_sql.proofs.laws.into_store.Goals as goal

pub returns-clause-honest : goal.returns-clause-honest
returns-clause-honest g c clean =
    let was : IsClean (g.S.Store.view c.into_connection.result.store) =
    omega (arith, c.into_store.ensures.quiet.clean, clean) in
    subst (λ (h : Held _). IsClean (g.S.Store.view h.store)) c.into_connection.ensures.connection was

pub returns-clause-leaves : goal.returns-clause-leaves
returns-clause-leaves g c trees left =
    subst (λ (h : Held _). g.S.Store.recovers h.store trees) c.into_connection.ensures.connection
    (c.into_store.ensures.quiet.outcomes trees left)
