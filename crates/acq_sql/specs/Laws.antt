-- What a stop leaves of an open book.
use Rattle.std.proofs.Common.{◌≡◌, ℕ, Bool, inl, true≢false, IsTrue, sym, ap, subst, ◌∙◌}
use Rattle.sqlite_trees.specs.Tree.{Trees}
use Rattle.sqlite_trees.specs.declared.store.Store.{Ghosts}
use Rattle.sqlite.specs.Effect.{Database}
use Rattle.sqlite.specs.Held.{Held, state}
use Rattle.row_lemmas.specs.Ready.{LeavesOnly}
use Rattle.acq_core.specs.Tables.{Tables}
use Rattle.acq_sql_rows.specs.Relation.{Holds}
use Rattle.acq_sql_rows.specs.Schema.{book_schema}
use Rattle.acq_sql_rows.proofs.TablesReadBack.{tables_of-holds}
use Rattle.acq_sql_rows.specs.Standing.{IsAt, HoldsAfter}
use Rattle.sqlite.specs.State.{State}
use Rattle.acq_sql.specs.Kept.{Kept}
use Rattle.acq_sql.specs.declared.memo.Memo.{Memo}
use Rattle.acq_sql.specs.Opened.{IsGroup, IsReturnable}
use Rattle.acq_sql.specs.Opened.{tables, tables_left, is_open, may_leave, leaves_books}

-- while a store is open, a stop leaves its last commit
abbrev pub LeavesCommit : {S : Type 0} → Ghosts S → Type 0
LeavesCommit {S} g =
    (s : S) (db : Trees) → IsTrue (g.view s).is_open → g.recovers s db → db ≡ (g.view s).committed

-- trees that store tables read as these
pub stores_what_it_reads : (t : Tables) (trees : Trees) → HoldsAfter t trees
    → HoldsAfter (tables_left trees) trees
stores_what_it_reads t trees (form, holds) =
    let db : Database = record { schema = book_schema form; trees = trees } in
    (form, subst (λ u. Holds db u) (sym (tables_of-holds db t holds)) holds)

-- a transaction that is open can be rolled back
pub returnable : {s : State} {began t : Tables} {faults : ℕ} {memo : Memo} {in_group : Bool}
    → IsGroup s began t faults memo in_group → IsReturnable s began faults
returnable is = record {
  based = record {
    committed = λ opened. is.inside.committed;
    ended = λ out opened. absurd (true≢false (sym is.inside.inside ∙ out));
  };
  past = is.began_past;
  shuts = inl is.inside.is_open;
  since = is.since;
}

module _ {S : Type 0} (g : Ghosts S) (law : LeavesCommit g) where
  -- of a connection at these tables it stores them and no others
  pub left_at : (c : Held S) (t : Tables) → IsAt (state g c) t
      → LeavesOnly (HoldsAfter t) (state g c)
  left_at c t at trees left =
      let same : trees ≡ (state g c).now.trees =
      law c.store trees at.is_open left ∙ sym (ap (λ (d : Database). d.trees) at.same) in
      let has = at.holds.rows.schema in
      let now_is : ◌≡◌ {A = Database} (state g c).now
      (record { schema = book_schema has.0; trees = trees }) =
      λ i. record { schema = has.1 i; trees = sym same i } in
      (has.0, subst (λ d. Holds d t) now_is at.holds)

  module _ (book : Kept S) (opened : is_open g book) where
    pub settled_at : (t : Tables) → may_leave g book t → t ≡ tables g book
    settled_at t way =
        let left = left_at book.connection (tables g book) opened.opened.at way.0 way.1 in
        way.2 ∙ tables_of-holds (record { schema = book_schema left.0; trees = way.0 })
        (tables g book) left.1

    pub stored_at : leaves_books g book
    stored_at trees left = stores_what_it_reads (tables g book) trees
        (left_at book.connection (tables g book) opened.opened.at trees left)
