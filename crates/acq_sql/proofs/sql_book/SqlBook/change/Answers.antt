-- a change of the connection is one of its book's group
use Rattle.std.proofs.Common.{◌≡◌, Bool, true, false, is_ok, refl, subst, sym, ◌∙◌, arith}
use Rattle.acq_core.specs.Tables.{after}
use Rattle.acq_book.specs.Groups.{MakesWithinBy}
use Rattle.acq_sql.specs.Applied.{Suits}
use Rattle.acq_sql.specs.Holding.{ChangesGroup, Leads}
use Rattle.acq_sql.specs.Kept.{Kept}
use Rattle.acq_sql.specs.Opened.{tables, is_honest, is_within, can_return, may_leave}
use Rattle.acq_sql.specs.Opened.{leaves_books}
use Rattle.acq_sql.proofs.BookChanges.{changes_at}
use Rattle.acq_sql.proofs.BookGroups.{makes_outside_only}
use Rattle.acq_sql.proofs.sql_book.SqlBook.change.Goals as goal

pub returns : goal.returns
returns g c =
    let inside = c.self.inside in
    let old : Kept _ =
    record {
      connection = inside.connection;
      failures = inside.failures;
      memo = inside.memo;
      in_group = inside.in_group;
    } in
    let now : Kept _ =
    record {
      connection = c.apply-made.new.conn;
      failures = c.counted.new.failures;
      memo = c.after-self-inside.result;
      in_group = inside.in_group;
    } in
    let change = c.args.change.now in
    let Made : Bool → Type 0 = λ ok. MakesWithinBy (tables g.S.Store)
    (is_honest g.S.Store) (is_within g.S.Store) (can_return g.S.Store) (may_leave g.S.Store)
    (leaves_books g.S.Store) old now ok (after (tables g.S.Store old) change) in
    let by : (b : Bool) → inside.in_group ≡ b
    → ChangesGroup g.S.Store old now c.counted.result (Leads change) (λ t. after t change) =
    elim [
      | true ↦ (λ is.
          let made = c.apply-made.ensures.inside is in
          record {
            within = λ leads. subst Made (sym c.counted.ensures.succeeds)
                (changes_at g.S.Store old now c.apply-made.result (Suits change)
                (λ t. after t change) made (λ began n w. ((leads began n w).0, w.past))
                (λ began n w. (leads began n w).1)
                (λ is. c.after-self-inside.ensures.made (c.is_ok.ensures.value ∙ is)
                (tables g.S.Store old)) refl);
            was_honest = λ clean. let up = made.stop.clean in omega (arith, up, clean);
            rise = c.counted.ensures.rise;
            counts = made.stop.counts;
            store = c.counted.ensures.store;
          })
      | false ↦ (λ is.
          let made = c.apply-made.ensures.whole is in
          record {
            within = λ leads. makes_outside_only g.S.Store old now (is_ok c.counted.result) is;
            was_honest = λ clean. let up = made.stop.clean in omega (arith, up, clean);
            rise = c.counted.ensures.rise;
            counts = made.stop.counts;
            store = c.counted.ensures.store;
          })
    ] in
    subst (λ k. ChangesGroup g.S.Store k now c.counted.result (Leads change) (λ t. after t change))
    c.self.view_is (by inside.in_group refl)
