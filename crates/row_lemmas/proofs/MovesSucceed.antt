-- UPDATE of every row of a table, also of its rowid, where the new rows are a table in some order:
-- then no rowid comes twice, so it never stops, and it leaves that table.
use Rattle.std.proofs.Common.{◌≡◌, ◌≢◌, inl, inr, ◌≤◌, ◌+◌, ℕ, ℤ, Bool, true, false, cond, not}
use Rattle.std.proofs.Common.{List, [], ◌∷◌, map}
use Rattle.std.proofs.Common.{sum_by, slice_get, Less, Equal, None, Some, Option, Ok, Err, refl}
use Rattle.std.proofs.Common.{sym, ap, subst, ◌∙◌, arith}
use Rattle.std.proofs.Common.{Ordering, Greater, true≢false}
use Rattle.std.specs.List.{AllByRecursion, list_all}
use Rattle.std.specs.List.Sorted.{IsPermutation}
use Rattle.std.specs.Ordering.{is_eq, ordering_reverse}
use Rattle.std.proofs.lemmas.Bool.{and_parts, and_from, both_ways, cases_Bool, false_from_ne_true}
use Rattle.std.proofs.lemmas.Cmp.{tied_itself}
use Rattle.std.proofs.lemmas.List.Sums.{sum_by-cons}
use Rattle.std.proofs.lemmas.List.Sorted.{IsPermutation-sym, IsPermutation-trans}
use Rattle.std.proofs.lemmas.List.Sorted.{sum_by-IsPermutation}
use Rattle.sqlite_value.specs.declared.value.Value.TheVariants.{Null, Int}
use Rattle.sqlite_value.specs.Order.{Row, value_cmp}
use Rattle.sqlite_value.proofs.OrderLemmas.{value_cmp_total}
use Rattle.sqlite_trees.specs.Tree.{Trees, rowid, put_row, with_tree, IsTable}
use Rattle.sqlite_trees.specs.View.{IsShaped, is_int}
use Rattle.sqlite_trees.specs.declared.store.Shape.TheVariants as shape
use Rattle.sqlite_trees.proofs.ListLemmas.{all_weaker}
use Rattle.sqlite_sql.specs.Ops.{fits_i64}
use Rattle.sqlite_sql.specs.Term.{Term, col}
use Rattle.sqlite_sql.specs.Query.{Query}
use Rattle.sqlite_schema.specs.declared.schema.Constraint.TheVariants.{Unique}
use Rattle.sqlite_schema.specs.declared.schema.Index.{Index}
use Rattle.sqlite_schema.specs.declared.schema.Keys.{Keys}
use Rattle.sqlite_schema.specs.declared.schema.Table.{Table}
use Rattle.sqlite_schema.specs.declared.schema.Schema.{Schema}
use Rattle.sqlite_schema.specs.declared.command.Command.TheVariants.{Update}
use Rattle.sqlite_schema.specs.Rules.{Fits, guards, passes_checks}
use Rattle.sqlite_typing.specs.Types.{accepts_program}
use Rattle.sqlite_rules.specs.Lists.{Has}
use Rattle.sqlite_rules.specs.Keys.{are_unique}
use Rattle.sqlite_rules.specs.Steps.{PassAlone, is_typed, is_present}
use Rattle.sqlite_rules.specs.Cast.{cast_row}
use Rattle.sqlite_rules.specs.Calls.{ids_of}
use Rattle.sqlite_rules.specs.Edit.{Edit, id_in, edit_of, edited, left_by, is_taken, are_fresh}
use Rattle.sqlite_rules.specs.Edit.{IsOversized}
use Rattle.sqlite_rules.specs.declared.error.Rowids.TheVariants.{Given}
use Rattle.sqlite_rules.proofs.ListLemmas.{some_has, some_from, test_from}
use Rattle.sqlite_rules.proofs.TableLemmas.{put_has}
use Rattle.sqlite.specs.declared.error.Error.{Error}
use Rattle.sqlite.specs.declared.run.Mode.{Mode}
use Rattle.sqlite.specs.Effect.{Database, Answers}
use Rattle.sqlite.specs.Does.{Tally, Does, OnRows, due}
use Rattle.sqlite.specs.Rows.{Edited, Task, Updates}
use Rattle.row_lemmas.specs.Queries.{plain_query, alone}
use Rattle.row_lemmas.proofs.Elements.{has_permuted, map_has}
use Rattle.row_lemmas.proofs.TableRows.{Under}
use Rattle.row_lemmas.proofs.StatementEffects.{bare, numbered_given, updated_by}
use Rattle.row_lemmas.proofs.QueryRows.{shown_of}
use Rattle.row_lemmas.proofs.RowChanges.{none_left, moved_are, rows_moved}
use Rattle.row_lemmas.proofs.GoodEdits.{IsGood, no_works, never_stops, none_referred, none_refers}
use Rattle.row_lemmas.proofs.GoodEdits.{added_stays}
use Rattle.row_lemmas.proofs.InsertsSucceed.{IsPlainSchema, no_term, on_rows}
use Rattle.row_lemmas.proofs.UpdatesSucceed.{queried}

-- ---- rows that are a table in some order have no rowid twice

-- how many rows have the rowid of this one
abbrev alike : Row → List Row → ℕ
alike n rows = sum_by (λ r. cond (is_eq (value_cmp (rowid r) (rowid n))) 1 0) rows

alike-cons : (n r : Row) (rows : List Row)
    → alike n (r ∷ rows) ≡ cond (is_eq (value_cmp (rowid r) (rowid n))) 1 0 + alike n rows
alike-cons n r rows = sum_by-cons (λ r. cond (is_eq (value_cmp (rowid r) (rowid n))) 1 0) r rows

is_equal : (o : Ordering) → is_eq o ≡ true → o ≡ Equal
is_equal Less h = absurd (true≢false (sym h))
is_equal Equal h = refl
is_equal Greater h = absurd (true≢false (sym h))

none_alike : (n : Row) (rows : List Row) → AllByRecursion (Under n) rows → alike n rows ≡ 0
none_alike n [] above = refl
none_alike n (r ∷ rows) above =
    let over : is_eq (value_cmp (rowid r) (rowid n)) ≡ false =
    ap is_eq (value_cmp_total.antisymm (rowid r) (rowid n) ∙ ap ordering_reverse above.0) in
    let sum = alike-cons n r rows ∙ ap (λ b. cond b 1 0 + alike n rows) over in
    let later = none_alike n rows above.1 in omega (arith, sum, later)

one_alike : (n : Row) (rows : List Row) → IsTable rows → alike n rows ≤ 1
one_alike n [] up = omega arith
one_alike n (r ∷ rows) up = elim (cases_Bool (is_eq (value_cmp (rowid r) (rowid n)))) [
  | inl here ↦
      let same = is_equal (value_cmp (rowid r) (rowid n)) here in
      let above = all_weaker (Under r) (Under n)
      (λ s low. sym (value_cmp_total.congr (rowid r) (rowid n) (rowid s) same) ∙ low) rows up.0 in
      let none = none_alike n rows above in
      let sum = alike-cons n r rows ∙ ap (λ b. cond b 1 0 + alike n rows) here in
      omega (arith, none, sum)
  | inr other ↦
      let later = one_alike n rows up.1 in
      let sum = alike-cons n r rows ∙ ap (λ b. cond b 1 0 + alike n rows) other in
      omega (arith, later, sum)
]

some_alike : (n : Row) (rows : List Row) → Has rows n → 1 ≤ alike n rows
some_alike n [] h = absurd h
some_alike n (r ∷ rows) (inl is) =
    let here : is_eq (value_cmp (rowid r) (rowid n)) ≡ true =
    ap (λ s. is_eq (value_cmp (rowid s) (rowid n))) (sym is)
    ∙ ap is_eq (tied_itself value_cmp_total (rowid n)) in
    let sum = alike-cons n r rows ∙ ap (λ b. cond b 1 0 + alike n rows) here in omega (arith, sum)
some_alike n (r ∷ rows) (inr later) =
    let more = some_alike n rows later in
    let sum = alike-cons n r rows in omega (arith, more, sum)

all_fresh : (news rows : List Row) → ((n : Row) → Has news n → is_taken rows n ≡ false)
    → ((n : Row) → Has news n → alike n news ≤ 1) → are_fresh rows news ≡ true
all_fresh [] rows free one = refl
all_fresh (n ∷ news) rows free one =
    and_from _ _ (ap not (free n (inl refl)))
    (all_fresh news (put_row n rows)
    (λ m k. false_from_ne_true _ (λ taken.
    let x = some_has (λ r. is_eq (value_cmp (rowid r) (rowid m))) (put_row n rows) taken in
    elim (put_has n rows x.0 x.1) [
      | inl same ↦
          let here : is_eq (value_cmp (rowid n) (rowid m)) ≡ true =
          ap (λ s. is_eq (value_cmp (rowid s) (rowid m))) (sym same) ∙ x.2 in
          let sum = alike-cons m n news ∙ ap (λ b. cond b 1 0 + alike m news) here in
          let most = one m (inr k) in
          let least = some_alike m news k in omega (arith, sum, most, least)
      | inr old ↦
          both_ways _ (free m (inr k))
          (some_from (λ r. is_eq (value_cmp (rowid r) (rowid m))) rows x.0 old x.2)
    ]))
    (λ m k. let sum = alike-cons m n news in let most = one m (inr k) in omega (arith, sum, most)))

pub table_fresh : (target news : List Row) → IsTable target → IsPermutation target news
    → are_fresh [] news ≡ true
table_fresh target news up same =
    all_fresh news [] (λ n h. refl)
    (λ n h.
    let count = sum_by-IsPermutation (λ r. cond (is_eq (value_cmp (rowid r) (rowid n))) 1 0) target
    news same in
    let most = one_alike n target up in omega (arith, count, most))

-- ---- a table that no unique index guards

pub unguarded_unique : (indexes : List Index) (db : Trees) (table : Table) (news : List Row)
    → AllByRecursion (λ (i : Index). guards i table ≡ false) indexes
    → are_unique indexes db table news ≡ true
unguarded_unique [] db table news none = refl
unguarded_unique (i ∷ indexes) db table news none =
    rw (none.0, unguarded_unique indexes db table news none.1) refl

-- ---- UPDATE of every row, also of its rowid

-- the row keeps all rules but the unique keys
pub record IsSoundRow (schema : Schema) (table : Table) (new : Row) : Type 0 where
  pub id : ℤ
  pub at : rowid new ≡ Int id
  pub small : fits_i64 id ≡ true
  pub pass : PassAlone table (new ∷ [])
  pub sized : ¬ IsOversized schema table new

-- each row becomes one that keeps the rules, and the new rows are this table in some order
pub record IsMove (schema : Schema) (table : Table) (project : List Term) (params : Row)
    (rows target : List Row) : Type 0 where
  pub sound : (r : Row) → Has rows r
      → IsSoundRow schema table (cast_row table (shown_of project params r))
  pub up : IsTable target
  pub same : IsPermutation (map (λ r. cast_row table (shown_of project params r)) rows) target

-- the table has the new rows, and the others have theirs
pub record Moved (schema : Schema) (tree : ℕ) (old new : Database) (target : List Row) : Type 0
  where
    pub schema_is : new.schema ≡ schema
    pub rows : new.trees tree ≡ target
    pub others : AllByRecursion (λ (t : Table). t.tree ≢ tree → new.trees t.tree ≡ old.trees t.tree)
        schema.tables

module _ (schema : Schema) (plain : IsPlainSchema schema) (at : ℕ) (t : Table)
    (placed : slice_get schema.tables at ≡ Some (bare t)) (mode : Mode) (old : Database)
    (has : old.schema ≡ schema)
    (shaped : IsShaped shape.Table (old.trees t.tree)) (text : List ℕ) (params : Row)
    (project : List Term)
    (target : List Row) (move : IsMove schema (bare t) project params (old.trees t.tree) target)
  where
    abbrev table : Table
    table = bare t

    abbrev db : Trees
    db = old.trees

    abbrev rows : List Row
    rows = db t.tree

    abbrev q : Query
    q = plain_query t.tree [] (col 1 0 ∷ project) []

    abbrev new_form : Row → Row
    new_form r = cast_row table (shown_of project params r)

    -- one that succeeds leaves the new rows in their order
    pub moves : (limit : Option ℕ) (new : Database) (tally : Tally)
        → Does limit mode params old text None (Update at (alone q)) (Ok (tally, new))
        → Moved schema t.tree old new target
    moves limit new tally does =
        let lone = λ (keys : Keys) (taken news : List Row). no_works schema plain.alone keys 0 t.tree
        taken news in
        let w = updated_by schema at t placed lone limit mode old new has text params tally q does in
        record {
          schema_is = w.0;
          rows = rows_moved schema mode.keys db new.trees table shaped [] project params w.1.0
              (w.1.1.answer Null)
              (λ r. refl) new_form (λ r h. refl) target move.up move.same w.1.2;
          others = w.1.2.tables;
        }

    module _ (listed : Has schema.tables (bare t)) (fits : Fits schema db)
        (unguarded : AllByRecursion (λ (i : Index). guards i table ≡ false) schema.indexes) where
      abbrev task : Task
      task =
          record {
            limit = None;
            keys = mode.keys;
            schema = schema;
            table = table;
            params = params;
          }

      abbrev edit_for : List Row → Edit
      edit_for found = edit_of db table (ids_of found) Given 1 found

      module _ (found : List Row)
          (answers : Answers (record { schema = schema; trees = db }) (alone q) params found) where
        abbrev news : List Row
        news = (edit_for found).news

        left_none : left_by db (edit_for found) ≡ []
        left_none =
            none_left schema mode.keys db db table shaped [] project params found
            (answers.answer Null) (λ r. refl)

        moved : IsPermutation (map new_form rows) news
        moved =
            subst (IsPermutation (map new_form rows)) (sym (numbered_given _ _))
            (moved_are schema mode.keys db db table shaped [] project params found
            (answers.answer Null) (λ r. refl)
            new_form (λ r h. refl))

        each : (z : Row) → Has news z → IsSoundRow schema table z
        each z h =
            let it = map_has new_form rows z
            (has_permuted news _ z (IsPermutation-sym _ news moved) h) in
            subst (IsSoundRow schema table) (sym it.2) (move.sound it.0 it.1)

        -- a test that each new row passes alone
        passes : (p : Row → Bool) → ((z : Row) → IsSoundRow schema table z → p z ≡ true)
            → list_all p news ≡ true
        passes p so = test_from p news (λ z h. so z (each z h))

        good : IsGood schema mode.keys db (edit_for found)
        good =
            let one = IsPermutation-trans target _ news (IsPermutation-sym _ target move.same) moved
            in
            let fresh : are_fresh (left_by db (edit_for found)) news ≡ true =
            subst (λ l. are_fresh l news ≡ true) (sym left_none) (table_fresh target news move.up one)
            in
            record {
              unique = fits.rules Unique (λ e. let x = e in cc);
              keyed = passes (λ r. is_int (rowid r)) (λ z s. ap is_int s.at);
              small = passes (λ r. fits_i64 (id_in (rowid r)))
                  (λ z s. ap (λ v. fits_i64 (id_in v)) s.at ∙ s.small);
              fresh = fresh;
              pass =
                  record {
                    typed = passes (is_typed table) (λ z s. (and_parts _ _ s.pass.typed).0);
                    present = passes (is_present table) (λ z s. (and_parts _ _ s.pass.present).0);
                    checked = passes (passes_checks table) (λ z s. (and_parts _ _ s.pass.checked).0);
                  };
              referred = none_referred schema plain.alone mode.keys (edit_for found) listed;
              stays = added_stays schema db (edit_for found) plain.apart listed shaped.0 fresh
                  (unguarded_unique schema.indexes (with_tree db t.tree (edited db (edit_for found)))
                  table news unguarded);
            }

        edits : (why : Option Error) → ¬ Edited schema mode.keys db (edit_for found) (Err why)
        edits why (refusal, writes, e) =
            never_stops schema plain.alone mode.keys db (edit_for found) good
            (λ z h. (each z h).sized) refusal writes

      module _ (typed : accepts_program schema [] q params ≡ true) where
        moving_succeeds : (stop : Option Error) → ¬ Updates task (alone q) params db (Err stop)
        moving_succeeds stop (inl (s, source, e)) =
            queried schema plain at t placed listed mode old has fits shaped text params [] project
            params typed s source
        moving_succeeds stop (inr (found, source, inl (s, edit, e))) = edits found source s edit
        moving_succeeds stop (inr (found, source, inr (next, edit, e))) = no_term _ _ e

        -- it never stops
        pub move_succeeds : (stop : Option Error)
            → ¬ Does None mode params old text None (Update at (alone q)) (Err stop)
        move_succeeds stop does =
            go (on_rows schema plain at t placed listed mode old has fits shaped.0 text params
            (Update at (alone q)) stop does)
          where
            go : OnRows task mode None (Update at (alone q)) db (Err stop) → ⊥
            go (inl (s, stops, g)) = moving_succeeds s stops
            go (inr (w, wrote, inl (s, tested, e))) =
                tested.0 (none_refers schema plain.alone (due mode) w.trees)
            go (inr (w, wrote, inr (doubt, tested, inl (s, shows, e)))) = no_term _ _ shows
            go (inr (w, wrote, inr (doubt, tested, inr (given, shows, e)))) = no_term _ _ e
