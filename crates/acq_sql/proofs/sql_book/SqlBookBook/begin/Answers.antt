-- what the connection begins, its book does
use Rattle.std.proofs.Common.{Bool, is_ok, refl, subst, sym, ◌∙◌}
use Rattle.acq_book.specs.Groups.{BeginsBy}
use Rattle.acq_book.specs.Promise.{BlamesStore}
use Rattle.acq_sql.specs.Kept.{Kept}
use Rattle.acq_sql.specs.Opened.{tables, is_honest, is_open, is_within, may_leave}
use Rattle.acq_sql.specs.Opened.{leaves_books, store_faults}
use Rattle.acq_sql.proofs.BookGroups.{begins_at, blames_begin}
use Rattle.acq_sql.proofs.sql_book.SqlBookBook.begin.Goals as goal

pub returns-clause-begins : goal.returns-clause-begins
returns-clause-begins g c =
    let old : Kept _ =
    record {
      connection = c.self.inside.connection;
      failures = c.self.inside.failures;
      memo = c.self.inside.memo;
      in_group = c.self.inside.in_group;
    } in
    let now : Kept _ =
    record {
      connection = c.begin-begun.new.conn;
      failures = c.counted.new.failures;
      memo = c.self.inside.memo;
      in_group = c.is_in_group-self-inside.result;
    } in
    let Begun_by : Kept _ → Kept _ → Bool → Type 0 = BeginsBy (tables g.S.Store)
    (is_honest g.S.Store) (is_open g.S.Store) (is_within g.S.Store) (may_leave g.S.Store)
    (leaves_books g.S.Store) (λ (book : Kept _). book.failures) (store_faults g.S.Store) in
    subst (λ k. Begun_by k now (is_ok c.counted.result)) c.self.view_is
    (subst (Begun_by old now) (sym c.counted.ensures.succeeds)
    (begins_at g.S.Store old now c.begin-begun.result c.begin-begun.ensures.begins
    c.begin-begun.ensures.stays c.begin-begun.ensures.stop refl
    (λ is. c.is_in_group-self-inside.ensures.begun (c.is_ok.ensures.value ∙ is))
    (λ is. c.is_in_group-self-inside.ensures.not (c.is_ok.ensures.value ∙ is)) c.counted.ensures.rise))

pub returns-clause-blames : goal.returns-clause-blames
returns-clause-blames g c clean o =
    let old : Kept _ =
    record {
      connection = c.self.inside.connection;
      failures = c.self.inside.failures;
      memo = c.self.inside.memo;
      in_group = c.self.inside.in_group;
    } in
    let now : Kept _ =
    record {
      connection = c.begin-begun.new.conn;
      failures = c.counted.new.failures;
      memo = c.self.inside.memo;
      in_group = c.is_in_group-self-inside.result;
    } in
    subst (λ (k : Kept _). BlamesStore c.counted.result (store_faults g.S.Store k)
    (store_faults g.S.Store now)) c.self.view_is
    (blames_begin g.S.Store old now c.begin-begun.result c.counted.result
    c.begin-begun.ensures.fails c.counted.ensures.same c.counted.ensures.fault clean
    (subst (is_open g.S.Store) (sym c.self.view_is) o))
