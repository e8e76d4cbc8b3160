-- a request that the connection records is recorded in its book's group
use Rattle.std.proofs.Common.{Bool, refl, subst, sym, ◌∙◌, arith, None, Some}
use Rattle.sqlite.specs.Held.{state}
use Rattle.acq_core.specs.declared.change.Change.TheVariants as change
use Rattle.acq_book.specs.Groups.{MakesWithinBy}
use Rattle.acq_book.specs.Promise.{BlamesStore}
use Rattle.acq_sql.specs.Applied.{Suits}
use Rattle.acq_sql.specs.Holding.{CanRecord, ChangesGroup, with_held}
use Rattle.acq_sql.specs.Kept.{Kept}
use Rattle.acq_sql.specs.Opened.{tables, is_honest, is_within, can_return, may_leave}
use Rattle.acq_sql.specs.Opened.{leaves_books, store_faults}
use Rattle.acq_sql.proofs.BookChanges.{changes_at, the_stores}
use Rattle.acq_sql.proofs.sql_book.SqlBook.record.Goals as goal

pub returns-clause-changes : goal.returns-clause-changes
returns-clause-changes g c =
    let inside = c.self.inside in
    let old : Kept _ =
    record {
      connection = inside.connection;
      failures = inside.failures;
      memo = inside.memo;
      in_group = inside.in_group;
    } in
    let now : Kept _ =
    record {
      connection = c.add_request-made.new.conn;
      failures = c.told_apart.new.failures;
      memo = c.with_request-self-inside.result;
      in_group = inside.in_group;
    } in
    let row = c.args.request.now in
    let Made : Bool → Type 0 = λ ok. MakesWithinBy (tables g.S.Store)
    (is_honest g.S.Store) (is_within g.S.Store) (can_return g.S.Store) (may_leave g.S.Store)
    (leaves_books g.S.Store) old now ok (with_held (Some row) (tables g.S.Store old)) in
    let made = c.add_request-made.ensures.changes in
    subst (λ k. ChangesGroup g.S.Store k now c.told_apart.result (CanRecord (Some row))
    (with_held (Some row))) c.self.view_is
    (record {
      within = λ leads. subst Made (sym c.told_apart.ensures.succeeds)
          (changes_at g.S.Store old now c.add_request-made.result
          (Suits (change.AddRequest row)) (with_held (Some row)) made
          (λ began n w. ((leads began n w).0, w.past)) (λ began n w. (leads began n w).1)
          (λ is past. c.with_request-self-inside.ensures.made (c.is_ok.ensures.value ∙ is)
          (tables g.S.Store old) None) refl);
      was_honest = λ clean. let up = made.stop.clean in omega (arith, up, clean);
      rise = c.told_apart.ensures.rise;
      counts = made.stop.counts;
      store = c.told_apart.ensures.store;
    })

pub returns-clause-blames : goal.returns-clause-blames
returns-clause-blames g c began faults clean w =
    let inside = c.self.inside in
    let old : Kept _ =
    record {
      connection = inside.connection;
      failures = inside.failures;
      memo = inside.memo;
      in_group = inside.in_group;
    } in
    let now : Kept _ =
    record {
      connection = c.add_request-made.new.conn;
      failures = c.told_apart.new.failures;
      memo = c.with_request-self-inside.result;
      in_group = inside.in_group;
    } in
    let was = subst (λ k. is_within g.S.Store k began faults) (sym c.self.view_is) w in
    subst (λ (k : Kept _). BlamesStore c.told_apart.result (store_faults g.S.Store k)
    (store_faults g.S.Store now)) c.self.view_is
    (c.told_apart.ensures.blames (store_faults g.S.Store old) (store_faults g.S.Store now)
    (the_stores (state g.S.Store old.connection) (state g.S.Store now.connection)
    c.is_autocommit-has_ended.ensures.value c.add_request-made.result
    (c.add_request-made.ensures.apart clean (tables g.S.Store old) (began, was.inside))))
