-- so is one as it ends
use Rattle.std.proofs.Common.{Bool, refl, subst, sym, ◌∙◌, arith}
use Rattle.acq_book.specs.Groups.{MakesWithinBy}
use Rattle.acq_sql_changes.specs.Changed.{with_posted}
use Rattle.acq_sql.specs.Applied.{SuitsPosted}
use Rattle.acq_sql.specs.Holding.{ChangesGroup, LeadsPosted}
use Rattle.acq_sql.specs.Kept.{Kept}
use Rattle.acq_sql.specs.Opened.{tables, is_honest, is_within, can_return, may_leave}
use Rattle.acq_sql.specs.Opened.{leaves_books}
use Rattle.acq_sql.proofs.BookChanges.{changes_at}
use Rattle.acq_sql.proofs.sql_book.SqlBook.record_ended.Goals as goal

pub returns : goal.returns
returns g c =
    let inside = c.self.inside in
    let old : Kept _ =
    record {
      connection = inside.connection;
      failures = inside.failures;
      memo = inside.memo;
      in_group = inside.in_group;
    } in
    let now : Kept _ =
    record {
      connection = c.add_ended-made.new.conn;
      failures = c.counted.new.failures;
      memo = c.with_request-self-inside.result;
      in_group = inside.in_group;
    } in
    let row = c.args.request.now in
    let posting = c.args.posting.now in
    let Made : Bool → Type 0 = λ ok. MakesWithinBy (tables g.S.Store)
    (is_honest g.S.Store) (is_within g.S.Store) (can_return g.S.Store) (may_leave g.S.Store)
    (leaves_books g.S.Store) old now ok (with_posted row posting (tables g.S.Store old)) in
    let made = c.add_ended-made.ensures in
    subst (λ k. ChangesGroup g.S.Store k now c.counted.result (LeadsPosted row posting)
    (with_posted row posting)) c.self.view_is
    (record {
      within = λ leads. subst Made (sym c.counted.ensures.succeeds)
          (changes_at g.S.Store old now c.add_ended-made.result
          (SuitsPosted row posting) (with_posted row posting) made
          (λ began n w. (leads began n w).0) (λ began n w. (leads began n w).1)
          (λ is past. c.with_request-self-inside.ensures.made (c.is_ok.ensures.value ∙ is)
          (tables g.S.Store old) posting) refl);
      was_honest = λ clean. let up = made.stop.clean in omega (arith, up, clean);
      rise = c.counted.ensures.rise;
      counts = made.stop.counts;
      store = c.counted.ensures.store;
    })
