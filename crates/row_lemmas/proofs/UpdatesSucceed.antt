-- UPDATE and DELETE that break no rule never stop.
use Rattle.std.proofs.Common.{◌≡◌, inl, inr, ◌≤◌, ℕ, ℤ, true, List, [], ◌∷◌, filter, map, length}
use Rattle.std.proofs.Common.{slice_get, Less}
use Rattle.std.proofs.Common.{Option, None, Some, Err, refl, sym, ap, subst, ◌∙◌, arith}
use Rattle.std.specs.List.{AllByRecursion}
use Rattle.std.specs.List.Sorted.{IsPermutation}
use Rattle.std.proofs.lemmas.List.Sorted.{length_permutation}
use Rattle.std.proofs.lemmas.Cmp.{tied_itself}
use Rattle.sqlite_value.specs.declared.value.Value.TheVariants.{Null, Int}
use Rattle.sqlite_value.specs.Order.{Row, value_cmp}
use Rattle.sqlite_value.proofs.OrderLemmas.{value_cmp_total}
use Rattle.sqlite_trees.specs.Tree.{Trees, rowid, has_rowid, put_row, without_rowid, with_tree}
use Rattle.sqlite_trees.specs.Tree.{IsTable}
use Rattle.sqlite_trees.specs.View.{IsShaped}
use Rattle.sqlite_trees.specs.declared.store.Shape.TheVariants as shape
use Rattle.sqlite_sql.specs.Ops.{fits_i64}
use Rattle.sqlite_sql.specs.Term.{Term, col}
use Rattle.sqlite_sql.specs.Query.{Query}
use Rattle.sqlite_schema.specs.declared.schema.Constraint.TheVariants.{Unique}
use Rattle.sqlite_schema.specs.declared.schema.Table.{Table}
use Rattle.sqlite_schema.specs.declared.schema.Schema.{Schema}
use Rattle.sqlite_schema.specs.declared.command.Command.TheVariants.{Update, Delete}
use Rattle.sqlite_schema.specs.Rules.{Fits, Keeps}
use Rattle.sqlite_typing.specs.Types.{accepts_program}
use Rattle.sqlite_rules.specs.Lists.{Has}
use Rattle.sqlite_rules.specs.Steps.{PassAlone}
use Rattle.sqlite_rules.specs.InPlace.{Replaces, KeepsKeys}
use Rattle.sqlite_rules.specs.Cast.{cast_row}
use Rattle.sqlite_rules.specs.Calls.{ids_of}
use Rattle.sqlite_rules.specs.Edit.{Edit, id_in, edit_of, edited, IsOversized}
use Rattle.sqlite_rules.specs.Action.{Writes}
use Rattle.sqlite_rules.specs.declared.error.Rowids.TheVariants.{Given}
use Rattle.sqlite_rules.specs.declared.error.Refusal.{Refusal}
use Rattle.sqlite_rules.proofs.ListLemmas.{all_has, has_filtered}
use Rattle.sqlite_rules.proofs.PlaceLemmas.{put, over, unique_stays, twins_from}
use Rattle.sqlite.specs.declared.error.Error.{Error}
use Rattle.sqlite.specs.declared.run.Mode.{Mode}
use Rattle.sqlite.specs.Effect.{Database, Answers}
use Rattle.sqlite.specs.Does.{Does, OnRows, due}
use Rattle.sqlite.specs.Rows.{Queried, Edited, Task, Updates}
use Rattle.sqlite.proofs.Callers.{one_permutation}
use Rattle.row_lemmas.specs.Queries.{plain_query, no_limit, alone}
use Rattle.row_lemmas.proofs.StatementEffects.{bare}
use Rattle.row_lemmas.proofs.TableRows.{Under}
use Rattle.row_lemmas.proofs.QueryRows.{picked, shown_of, plain_shown}
use Rattle.row_lemmas.proofs.QueriesSucceed.{query_succeeds}
use Rattle.row_lemmas.proofs.GoodEdits.{IsGood, never_stops, none_referred, none_refers, no_keys_to}
use Rattle.row_lemmas.proofs.GoodEdits.{added_stays}
use Rattle.row_lemmas.proofs.GoodEdits.{none_unique}
use Rattle.row_lemmas.proofs.GoodEdits.{with_tree_at, with_tree_other}
use Rattle.row_lemmas.proofs.InsertsSucceed.{IsPlainSchema, no_term, on_rows}

-- ---- the row with a rowid

none_above : (id : ℤ) (rows : List Row) →
    AllByRecursion (λ r. value_cmp (Int id) (rowid r) ≡ Less) rows
    → filter (has_rowid id) rows ≡ []
none_above id [] h = refl
none_above id (r ∷ rows) h =
    rw (value_cmp_total.antisymm (rowid r) (Int id), h.0, none_above id rows h.1) refl

one_at : (id : ℤ) (rows : List Row) (y : Row) → IsTable rows → Has rows y → rowid y ≡ Int id
    → filter (has_rowid id) rows ≡ y ∷ []
one_at id [] y up has at = absurd has
one_at id (r ∷ rows) y up (inl same) at =
    let here : rowid r ≡ Int id = ap rowid (sym same) ∙ at in
    let above = subst (λ v. AllByRecursion (λ s. value_cmp v (rowid s) ≡ Less) rows) here up.0 in
    rw (here, tied_itself value_cmp_total (Int id), none_above id rows above)
    (ap (λ x. x ∷ []) (sym same))
one_at id (r ∷ rows) y up (inr later) at =
    let low : value_cmp (rowid r) (Int id) ≡ Less =
    subst (λ v. value_cmp (rowid r) v ≡ Less) at (all_has (Under r) rows y up.0 later) in
    rw low (one_at id rows y up.1 later at)

-- ---- a row that keeps its keys may take the place of another

pub record IsNewForm (schema : Schema) (table : Table) (y new : Row) : Type 0 where
  pub id : ℤ
  pub at : rowid y ≡ Int id
  pub new_at : rowid new ≡ Int id
  pub small : fits_i64 id ≡ true
  pub pass : PassAlone table (new ∷ [])
  pub keys : KeepsKeys schema table y new
  pub sized : ¬ IsOversized schema table new

module _ (schema : Schema) (plain : IsPlainSchema schema) (at : ℕ) (t : Table)
    (placed : slice_get schema.tables at ≡ Some (bare t)) (listed : Has schema.tables (bare t))
    (mode : Mode) (old : Database) (has : old.schema ≡ schema) (fits : Fits schema old.trees)
    (shaped : IsShaped shape.Table (old.trees t.tree)) (text : List ℕ) (params : Row) where
  abbrev table : Table
  table = bare t

  abbrev db : Trees
  db = old.trees

  abbrev rows : List Row
  rows = db t.tree

  abbrev task : Task
  task = record { limit = None; keys = mode.keys; schema = schema; table = table; params = params }

  unique : Keeps Unique schema db
  unique = fits.rules Unique (λ e. let x = e in cc)

  abbrev changing : ℤ → Row → Edit
  changing id new = record { table = table; gone = id ∷ []; news = new ∷ [] }

  good : (y new : Row) → Has rows y → (form : IsNewForm schema table y new)
      → IsGood schema mode.keys db (changing form.id new)
  good y new there form =
      let id = form.id in
      let es = put_row new (without_rowid id rows) in
      let next = with_tree db t.tree es in
      let plan : Replaces table rows (id ∷ []) (y ∷ []) (new ∷ []) =
      record {
        keyed = (form.new_at, tt);
        found = (one_at id rows y shaped.0 there form.at, tt);
        alone = form.pass;
      } in
      let laid = put shaped.0 tt plan in
      let here = with_tree_at db t.tree es ∙ sym (over shaped.0 tt plan) in
      let keyed = no_keys_to schema table schema.tables plain.alone in
      let twins =
      twins_from schema db next table (id ∷ []) (y ∷ []) (new ∷ []) shaped.0 shaped.1 tt plan here
      keyed
      (form.keys, tt) in
      record {
        unique = unique;
        keyed = laid.keyed;
        small = rw (form.new_at, form.small) refl;
        fresh = laid.fresh;
        pass = form.pass;
        referred = none_referred schema plain.alone mode.keys (changing id new) listed;
        stays =
            unique_stays schema db next table listed plain.apart
            (λ t known other. with_tree_other db table.tree es t.tree other) twins;
      }

  sized : (y new : Row) → IsNewForm schema table y new → (r : Row) → Has (new ∷ []) r →
      ¬ IsOversized schema table r
  sized y new form r (inl is) big = form.sized (subst (IsOversized schema table) is big)
  sized y new form r (inr none) big = none

  -- an edit that takes rows out and puts none in
  abbrev removing : List ℤ → Edit
  removing ids = record { table = table; gone = ids; news = [] }

  pub removes : (ids : List ℤ) (why : Option Refusal) →
      ¬ Writes schema mode.keys db (removing ids) (Err why)
  removes ids why writes =
      never_stops schema plain.alone mode.keys db (removing ids) (record {
        unique = unique;
        keyed = refl;
        small = refl;
        fresh = refl;
        pass = record { typed = refl; present = refl; checked = refl };
        referred = none_referred schema plain.alone mode.keys (removing ids) listed;
        stays = added_stays schema db (removing ids) plain.apart listed shaped.0 refl
            (none_unique schema.indexes (with_tree db t.tree (edited db (removing ids))) table);
      }) (λ row none. absurd none) why writes

  module _ (test project : List Term) where
    abbrev q : Query
    q = plain_query t.tree test (col 1 0 ∷ project) []

    pub queried : (given : Row) → accepts_program schema [] q given ≡ true → (stop : Option Error)
        → ¬ Queried None (record { schema = schema; trees = db }) (alone q) given (Err stop)
    queried given typed None h = h
    queried given typed (Some e) h =
        query_succeeds t.tree test (col 1 0 ∷ project) [] no_limit schema given typed
        (record { schema = schema; trees = db }) e refl h

    module _ (given : Row) (few : length (filter (picked test given) rows) ≤ 1)
        (each : (y : Row) → Has rows y → picked test given y ≡ true
        → IsNewForm schema table y (cast_row table (shown_of project given y))) where
      abbrev edit_for : List Row → Edit
      edit_for found = edit_of db table (ids_of found) Given 1 found

      edits : (found : List Row) →
          Answers (record { schema = schema; trees = db }) (alone q) given found
          → (why : Option Error) → ¬ Edited schema mode.keys db (edit_for found) (Err why)
      edits found answers why (refusal, writes, e) =
          let shown = plain_shown t.tree test (col 1 0 ∷ project) db given found
          (answers.answer Null) in
          go (filter (picked test given) rows) refl few shown
        where
          go : (ys : List Row) → filter (picked test given) rows ≡ ys → length ys ≤ 1
              → IsPermutation (map (shown_of (col 1 0 ∷ project) given) ys) found → ⊥
          go [] is few same =
              let none : found ≡ [] = elim found as (λ l. IsPermutation [] l → l ≡ []) [
                | [] ↦ λ h. refl
                | (f ∷ more) ↦ λ h. absurd (omega (arith, length_permutation [] (f ∷ more) h))
              ] same in
              removes [] refusal
              (subst (λ l. Writes schema mode.keys db (edit_for l) (Err refusal)) none writes)
          go (y ∷ []) is few same =
              let here = has_filtered (picked test given) rows y
              (subst (λ l. Has l y) (sym is) (inl refl)) in
              let new = cast_row table (shown_of project given y) in
              let form = each y here.0 here.1 in
              let one = one_permutation _ found same in
              let edit : edit_for found ≡ changing form.id new =
              ap edit_for one ∙ ap (λ v. changing (id_in v) new) form.at in
              never_stops schema plain.alone mode.keys db (changing form.id new)
              (good y new here.0 form)
              (sized y new form) refusal
              (subst (λ d. Writes schema mode.keys db d (Err refusal)) edit writes)
          go (y ∷ z ∷ ys) is few same = absurd (omega (arith, few))

      pub updating_succeeds : accepts_program schema [] q given ≡ true → (stop : Option Error)
          → ¬ Updates task (alone q) given db (Err stop)
      updating_succeeds typed stop (inl (t, source, e)) = queried given typed t source
      updating_succeeds typed stop (inr (found, source, inl (t, edit, e))) =
          edits found source t edit
      updating_succeeds typed stop (inr (found, source, inr (next, edit, e))) = no_term _ _ e

    pub update_succeeds : length (filter (picked test params) rows) ≤ 1
        → ((y : Row) → Has rows y → picked test params y ≡ true
        → IsNewForm schema table y (cast_row table (shown_of project params y)))
        → accepts_program schema [] q params ≡ true
        → (stop : Option Error) →
        ¬ Does None mode params old text None (Update at (alone q)) (Err stop)
    update_succeeds few each typed stop does =
        go (on_rows schema plain at t placed listed mode old has fits shaped.0 text params
        (Update at (alone q)) stop does)
      where
        go : OnRows task mode None (Update at (alone q)) db (Err stop) → ⊥
        go (inl (s, stops, f)) = updating_succeeds params few each typed s stops
        go (inr (w, wrote, inl (t, tested, e))) =
            tested.0 (none_refers schema plain.alone (due mode) w.trees)
        go (inr (w, wrote, inr (doubt, tested, inl (t, shows, e)))) = no_term _ _ shows
        go (inr (w, wrote, inr (doubt, tested, inr (given, shows, e)))) = no_term _ _ e

    pub delete_succeeds : accepts_program schema [] q params ≡ true
        → (stop : Option Error) →
        ¬ Does None mode params old text None (Delete at (alone q)) (Err stop)
    delete_succeeds typed stop does =
        go (on_rows schema plain at t placed listed mode old has fits shaped.0 text params
        (Delete at (alone q)) stop does)
      where
        go : OnRows task mode None (Delete at (alone q)) db (Err stop) → ⊥
        go (inl (s, inl (t, source, e), f)) = queried params typed t source
        go (inl (s, inr (found, source, inl (t, (refusal, writes, e), f)), g)) =
            removes (ids_of found) refusal writes
        go (inl (s, inr (found, source, inr (next, edit, e)), f)) = no_term _ _ e
        go (inr (w, wrote, inl (t, tested, e))) =
            tested.0 (none_refers schema plain.alone (due mode) w.trees)
        go (inr (w, wrote, inr (doubt, tested, inl (t, shows, e)))) = no_term _ _ shows
        go (inr (w, wrote, inr (doubt, tested, inr (given, shows, e)))) = no_term _ _ e
