-- what the connection keeps, its book does
use Rattle.std.proofs.Common.{Bool, false, is_ok, refl, subst, sym, ◌∙◌}
use Rattle.acq_book.specs.Groups.{KeepsBy}
use Rattle.acq_book.specs.Promise.{BlamesStore}
use Rattle.acq_sql.specs.Kept.{Kept}
use Rattle.acq_sql.specs.Opened.{tables, is_honest, is_open, is_within, may_leave}
use Rattle.acq_sql.specs.Opened.{leaves_books, store_faults}
use Rattle.acq_sql.proofs.BookGroups.{blames_keep, keeps_at}
use Rattle.acq_sql.proofs.sql_book.SqlBookBook.keep.Goals as goal

pub returns-clause-keeps : goal.returns-clause-keeps
returns-clause-keeps g c =
    let old : Kept _ =
    record {
      connection = c.self.inside.connection;
      failures = c.self.inside.failures;
      memo = c.self.inside.memo;
      in_group = c.self.inside.in_group;
    } in
    let now : Kept _ =
    record {
      connection = c.keep-kept.new.conn;
      failures = c.counted.new.failures;
      memo = c.if_kept-self-inside.result;
      in_group = false;
    } in
    let Kept_by : Kept _ → Kept _ → Bool → Type 0 = KeepsBy (tables g.S.Store)
    (is_honest g.S.Store) (is_open g.S.Store) (is_within g.S.Store) (may_leave g.S.Store)
    (leaves_books g.S.Store) (λ (book : Kept _). book.failures) (store_faults g.S.Store) in
    subst (λ k. Kept_by k now (is_ok c.counted.result)) c.self.view_is
    (subst (Kept_by old now) (sym c.counted.ensures.succeeds)
    (keeps_at g.S.Store old now c.keep-kept.result c.keep-kept.ensures.keeps
    c.keep-kept.ensures.undoes c.keep-kept.ensures.stop
    (λ is. c.if_kept-self-inside.ensures.kept (c.is_ok.ensures.value ∙ is))
    (λ is. c.if_kept-self-inside.ensures.not (c.is_ok.ensures.value ∙ is)) refl c.counted.ensures.rise))

pub returns-clause-blames : goal.returns-clause-blames
returns-clause-blames g c began faults clean w =
    let old : Kept _ =
    record {
      connection = c.self.inside.connection;
      failures = c.self.inside.failures;
      memo = c.self.inside.memo;
      in_group = c.self.inside.in_group;
    } in
    let now : Kept _ =
    record {
      connection = c.keep-kept.new.conn;
      failures = c.counted.new.failures;
      memo = c.if_kept-self-inside.result;
      in_group = false;
    } in
    subst (λ (k : Kept _). BlamesStore c.counted.result (store_faults g.S.Store k)
    (store_faults g.S.Store now)) c.self.view_is
    (blames_keep g.S.Store old now c.keep-kept.result c.counted.result c.keep-kept.ensures.fails
    c.counted.ensures.same c.counted.ensures.fault began faults clean
    (subst (λ k. is_within g.S.Store k began faults) (sym c.self.view_is) w))
