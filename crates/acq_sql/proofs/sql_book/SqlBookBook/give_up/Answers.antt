-- what the connection is led back to, its book is
use Rattle.std.proofs.Common.{false, refl, subst}
use Rattle.acq_book.specs.Groups.{ReturnsBy}
use Rattle.acq_sql.specs.Kept.{Kept}
use Rattle.acq_sql.specs.Opened.{tables, is_honest, is_open, can_return, may_leave}
use Rattle.acq_sql.specs.Opened.{leaves_books, store_faults}
use Rattle.acq_sql.proofs.BookGroups.{returns_at}
use Rattle.acq_sql.proofs.sql_book.SqlBookBook.give_up.Goals as goal

pub returns : goal.returns
returns g c =
    let old : Kept _ =
    record {
      connection = c.self.inside.connection;
      failures = c.self.inside.failures;
      memo = c.self.inside.memo;
      in_group = c.self.inside.in_group;
    } in
    let now : Kept _ =
    record {
      connection = c.roll_back.new.conn;
      failures = c.self.inside.failures;
      memo = c.nothing-self-inside.result;
      in_group = false;
    } in
    subst (λ (k : Kept _). ReturnsBy (tables g.S.Store) (is_honest g.S.Store) (is_open g.S.Store)
    (can_return g.S.Store) (may_leave g.S.Store) (leaves_books g.S.Store)
    (λ (book : Kept _). book.failures) (store_faults g.S.Store) k now) c.self.view_is
    (returns_at g.S.Store old now c.roll_back.ensures.returns c.roll_back.ensures.stop
    c.nothing-self-inside.ensures refl refl)
