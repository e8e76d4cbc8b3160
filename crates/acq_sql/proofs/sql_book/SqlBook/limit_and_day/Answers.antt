-- what the look told is recalled
use Rattle.std.proofs.Common.{◌∙◌, refl, rules, sym}
use Rattle.acq_core.specs.Tables.{Tables}
use Rattle.acq_sql.specs.Kept.{Kept}
use Rattle.acq_sql.specs.Memos.{Recalls}
use Rattle.acq_sql.specs.Opened.{tables}
use Rattle.acq_sql.proofs.BookBlames.{blames_of, has_past}
use Rattle.acq_sql.proofs.BookLooks.{Learns, new_looks, new_room, new_value, new_within, relay}
use Rattle.acq_sql.proofs.sql_book.SqlBook.limit_and_day.Goals as goal

pub returns : goal.returns
returns g c =
    let answer = c.limit_and_day-answer in
    let told = c.counted-told in
    let inside = c.self.inside in
    let old : Kept _ =
    record {
      connection = inside.connection;
      failures = inside.failures;
      memo = inside.memo;
      in_group = inside.in_group;
    } in
    let new : Kept _ =
    record {
      connection = answer.new.conn;
      failures = told.new.failures;
      memo = c.note_row.new.self;
      in_group = inside.in_group;
    } in
    let recalled : (t : Tables) → Recalls new.memo t → Recalls old.memo t =
    c.note_row.ensures.keeps (sym c.row.ensures ∙ c.in_default.is) in
    let recalls : Learns g.S.Store old new =
    λ clean holds past was.
    c.note_row.ensures.learns (tables g.S.Store old)
    (relay answer.result told.result _ told.ensures.same told.ensures.succeeds
    (answer.ensures.answers clean (tables g.S.Store old) holds)) was in
    record {
      gives = record {
        value = new_value g.S.Store old _ new c.self.view_is refl recalled recalls answer.result
            told.result answer.ensures.looks c.self.invariant c.settled.ensures told.ensures.same
            told.ensures.succeeds (λ t. (t.limit, t.day))
            (λ clean t holds past. answer.ensures.answers clean t holds);
        looks = new_looks g.S.Store old _ new c.self.view_is refl recalled recalls answer.result
            told.result answer.ensures.looks c.self.invariant c.settled.ensures
            told.ensures.succeeds told.ensures.rise;
        store = search rules;
        blames = blames_of g.S.Store _ _ answer.new.conn told.new.failures c.self.view_is
            answer.result told.result _ answer.ensures.fails told.ensures.same told.ensures.fault
            has_past;
        room = new_room g.S.Store old _ new c.self.view_is refl recalled recalls answer.result
            answer.ensures.looks c.self.invariant c.settled.ensures;
      };
      within = new_within g.S.Store old _ new c.self.view_is refl recalled recalls answer.result
          told.result answer.ensures.looks c.self.invariant c.settled.ensures told.ensures.same
          told.ensures.succeeds (λ t. (t.limit, t.day))
          (λ clean t holds past. answer.ensures.answers clean t holds);
    }
