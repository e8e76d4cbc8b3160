-- From what a statement does to the rows of a table to what it does to their list.
use Rattle.std.proofs.Common.{◌≡◌, inl, inr, ℕ, ℤ, pos, Bool, true, not, cond, List, [], ◌∷◌, ◌++◌}
use Rattle.std.proofs.Common.{map, filter, drop}
use Rattle.std.proofs.Common.{refl, sym, ap, ap₂, subst, ◌∙◌}
use Rattle.std.specs.List.Sorted.{IsPermutation}
use Rattle.std.proofs.lemmas.List.Sorted.{IsPermutation-sym, IsPermutation-map}
use Rattle.sqlite_value.specs.declared.value.Value.TheVariants.{Null, Int}
use Rattle.sqlite_value.specs.Order.{Row}
use Rattle.sqlite_trees.specs.Tree.{Trees, rowid, put_row, IsTable}
use Rattle.sqlite_trees.specs.View.{IsShaped}
use Rattle.sqlite_trees.specs.declared.store.Shape.TheVariants as shape
use Rattle.sqlite_sql.specs.Term.{Term, col}
use Rattle.sqlite_sql.specs.Query.{IsAnswerAs}
use Rattle.sqlite_sql.specs.Program.{overlay}
use Rattle.sqlite_schema.specs.declared.schema.Schema.{Schema}
use Rattle.sqlite_schema.specs.declared.schema.Keys.{Keys}
use Rattle.sqlite_schema.specs.declared.schema.Table.{Table}
use Rattle.sqlite_rules.specs.Lists.{Has}
use Rattle.sqlite_rules.specs.Calls.{ids_of}
use Rattle.sqlite_rules.specs.Cast.{cast_row}
use Rattle.sqlite_rules.specs.declared.error.Rowids.TheVariants.{Chosen, Given}
use Rattle.sqlite_rules.specs.Edit.{edit_of, id_in, with_rowid, without_all, put_all, are_fresh}
use Rattle.sqlite_rules.specs.Edit.{Applies}
use Rattle.sqlite_rules.proofs.ListLemmas.{all_has, has_filtered, has_kept}
use Rattle.sqlite_rules.proofs.TableLemmas.{int_is, put_all_has, put_all_adds}
use Rattle.row_lemmas.specs.Queries.{plain_query}
use Rattle.row_lemmas.specs.Numbered.{rows_of}
use Rattle.row_lemmas.proofs.Elements.{one_order, has_permuted, has_map, map_has}
use Rattle.row_lemmas.proofs.NumberedRows.{element_put, numbered_shaped, of_element}
use Rattle.row_lemmas.proofs.NumberedRows.{change_numbered}
use Rattle.row_lemmas.proofs.QueryRows.{picked, shown_of, plain_shown}
use Rattle.row_lemmas.proofs.TableRows.{Under, never_both, put_table, deleted, updated}
use Rattle.row_lemmas.proofs.StatementEffects.{numbered_given}

-- INSERT of one row with no rowid appends
pub numbered_added : {X : Type 0} (row_of : X → Row) (schema : Schema) (keys : Keys)
    (db next : Trees) (table : Table)
    (source : Row) (xs : List X) (x : X) → db table.tree ≡ rows_of row_of xs →
    cast_row table source ≡ Null ∷ row_of x
    → Applies schema keys db (edit_of db table [] Chosen 0 (source ∷ [])) next
    → next table.tree ≡ rows_of row_of (xs ++ x ∷ [])
numbered_added row_of schema keys db next table source xs x held laid applied =
    applied.rows ∙ ap (λ (row : Row). put_row (with_rowid Chosen (db table.tree) row)
    (db table.tree)) laid
    ∙ ap (λ rows. put_row (with_rowid Chosen rows (Null ∷ row_of x)) rows) held
    ∙ element_put row_of xs x

module _ (schema : Schema) (keys : Keys) (db next : Trees) (table : Table)
    (shaped : IsShaped shape.Table (db table.tree))
    (test project : List Term) (params : Row) (rows : List Row)
    -- what UPDATE and DELETE look up: the rowid of each row that passes, and its new columns
    (a : IsAnswerAs Null (plain_query table.tree test (col 1 0 ∷ project) [])
    (overlay db []) params rows) where
  abbrev all : List Row
  all = db table.tree

  abbrev p : Row → Bool
  p = picked test params

  abbrev show : Row → Row
  show r = shown_of (col 1 0 ∷ project) params r

  abbrev laid_out : Row → Row
  laid_out s = cast_row table (drop 1 s)

  abbrev left : List Row
  left = without_all all (ids_of rows)

  found : IsPermutation (map show (filter p all)) rows
  found = plain_shown table.tree test (col 1 0 ∷ project) db params rows a

  -- each answer shows a row that passes, and each such row is shown
  shows : (s : Row) → Has rows s → (r : Row) × Has all r × (p r ≡ true) × (s ≡ show r)
  shows s h =
      let it = map_has show (filter p all) s
      (has_permuted rows _ s (IsPermutation-sym _ rows found) h) in
      let here = has_filtered p all it.0 it.1 in (it.0, here.0, here.1, it.2)

  is_shown : (r : Row) → Has all r → p r ≡ true → Has rows (show r)
  is_shown r here passes =
      has_permuted _ rows (show r) found
      (has_map show (filter p all) r (has_kept p all r here passes))

  ids_sound : (id : ℤ) → Has (ids_of rows) id →
      (r : Row) × Has all r × (p r ≡ true) × (rowid r ≡ Int id)
  ids_sound id h =
      let at = map_has (λ (r : Row). id_in (rowid r)) rows id h in
      let it = shows at.0 at.1 in
      let own = int_is (rowid it.0) (all_has _ all it.0 shaped.1 it.1) in
      (it.0, it.1, it.2, own ∙ ap Int (sym (at.2 ∙ ap (λ (r : Row). id_in (rowid r)) it.3)))

  ids_complete : (r : Row) → Has all r → p r ≡ true → Has (ids_of rows) (id_in (rowid r))
  ids_complete r here passes = has_map (λ (r : Row). id_in (rowid r)) rows (show r)
      (is_shown r here passes)

  -- DELETE leaves the rows that fail its test
  pub rows_deleted : Applies schema keys db (edit_of db table (ids_of rows) Given 0 []) next
      → next table.tree ≡ filter (λ r. not (p r)) all
  rows_deleted applied = applied.rows ∙ deleted all shaped p (ids_of rows) ids_sound ids_complete

  abbrev pub Updates : Type 0
  Updates = Applies schema keys db (edit_of db table (ids_of rows) Given 1 rows) next

  module _ (f : Row → Row)
      (laid : (r : Row) → Has all r → p r ≡ true →
      cast_row table (shown_of project params r) ≡ rowid r ∷ f r) where
    new_sound : (z : Row) → Has (map laid_out rows) z →
        (r : Row) × Has all r × (p r ≡ true) × (z ≡ rowid r ∷ f r)
    new_sound z h =
        let at = map_has laid_out rows z h in
        let it = shows at.0 at.1 in
        (it.0, it.1, it.2, at.2 ∙ ap laid_out it.3 ∙ laid it.0 it.1 it.2)

    new_complete : (r : Row) → Has all r → p r ≡ true → Has (map laid_out rows) (rowid r ∷ f r)
    new_complete r here passes =
        subst (Has (map laid_out rows)) (laid r here passes)
        (has_map laid_out rows (show r) (is_shown r here passes))

    -- UPDATE changes the rows that pass its test
    pub rows_updated : Updates → next table.tree ≡ map (λ r. cond (p r) (rowid r ∷ f r) r) all
    rows_updated applied =
        let given = numbered_given left (map laid_out rows) in
        applied.rows ∙ ap (λ l. put_all left l) given
        ∙ updated all shaped p (ids_of rows) ids_sound ids_complete (λ r. rowid r ∷ f r) (λ r. refl)
        (map laid_out rows)
        (subst (λ l. are_fresh left l ≡ true) given applied.fresh) new_sound new_complete

  -- a test that every row passes finds every row
  module _ (every : (r : Row) → p r ≡ true) where
    pub all_pass : filter p all ≡ all
    all_pass = go all
      where
        go : (l : List Row) → filter p l ≡ l
        go [] = refl
        go (r ∷ l) = rw (every r) (ap (λ m. r ∷ m) (go l))

    pub none_left : left ≡ []
    none_left = deleted all shaped p (ids_of rows) ids_sound ids_complete ∙ go all
      where
        go : (l : List Row) → filter (λ r. not (p r)) l ≡ []
        go [] = refl
        go (r ∷ l) = rw (every r) (go l)

    -- UPDATE of every row, also of its rowid: the new rows are any of a mapping, in any order that
    -- makes a table
    module _ (f : Row → Row) (laid : (r : Row) → Has all r
        → cast_row table (shown_of project params r) ≡ f r) where
      -- what is put in is what the mapping makes, in some order
      pub moved_are : IsPermutation (map f all) (map laid_out rows)
      moved_are =
          let shown = IsPermutation-map laid_out _ _ found in
          let each : map laid_out (map show (filter p all)) ≡ map f all =
          ap (λ l. map laid_out (map show l)) all_pass ∙ go all (λ r here. here) in
          subst (λ l. IsPermutation l (map laid_out rows)) each shown
        where
          go : (l : List Row) → ((r : Row) → Has l r → Has all r) → map laid_out (map show l)
              ≡ map f l
          go [] in_all = refl
          go (r ∷ l) in_all =
              ap₂ (λ z m. z ∷ m) (laid r (in_all r (inl refl))) (go l (λ x h. in_all x (inr h)))

      pub rows_moved : (target : List Row) → IsTable target → IsPermutation (map f all) target
          → Updates → next table.tree ≡ target
      rows_moved target up same applied =
          let news = map laid_out rows in
          let given = numbered_given left news in
          let fresh : are_fresh left news ≡ true =
          subst (λ l. are_fresh left l ≡ true) given applied.fresh in
          let alone : are_fresh [] news ≡ true =
          subst (λ l. are_fresh l news ≡ true) none_left fresh in
          applied.rows ∙ ap (put_all left) given ∙ ap (λ l. put_all l news) none_left
          ∙ one_order Under never_both (put_all [] news) target (put_table news [] tt) up
          (λ z h. elim (put_all_has news [] z h) [
            | inl new ↦ has_permuted _ target z same
                (has_permuted news _ z (IsPermutation-sym _ news moved_are) new)
            | inr none ↦ absurd none
          ])
          (λ z h. put_all_adds news [] z alone
          (has_permuted _ news z moved_are
          (has_permuted target _ z (IsPermutation-sym _ target same) h)))

-- UPDATE of numbered rows changes the elements that pass
module _ {X : Type 0} (row_of : X → Row) (schema : Schema) (keys : Keys) (db next : Trees)
    (table : Table) (xs : List X)
    (held : db table.tree ≡ rows_of row_of xs) (test project : List Term) (params : Row)
    (rows : List Row)
    (a : IsAnswerAs Null (plain_query table.tree test (col 1 0 ∷ project) [])
    (overlay db []) params rows)
    (q : X → Bool) (u : X → X) where
  abbrev f : Row → Row
  f r = drop 1 (cast_row table (shown_of project params r))

  abbrev pub IsRowOf : ℕ → X → Type 0
  IsRowOf id x = Has (rows_of row_of xs) (Int (pos id) ∷ row_of x)

  pub numbered_updated :
      ((id : ℕ) (x : X) → IsRowOf id x → Has xs x →
      picked test params (Int (pos id) ∷ row_of x) ≡ q x)
      → ((id : ℕ) (x : X) → IsRowOf id x → Has xs x → q x ≡ true
      → cast_row table (shown_of project params (Int (pos id) ∷ row_of x)) ≡ Int (pos id)
      ∷ row_of (u x))
      → Applies schema keys db (edit_of db table (ids_of rows) Given 1 rows) next
      → next table.tree ≡ rows_of row_of (map (λ x. cond (q x) (u x) x) xs)
  numbered_updated tested laid applied =
      let shaped = subst (IsShaped shape.Table) (sym held) (numbered_shaped 1 (map row_of xs)) in
      rows_updated schema keys db next table shaped test project params rows a f laid_row applied
      ∙ ap (map (λ r. cond (picked test params r) (rowid r ∷ f r) r)) held
      ∙ change_numbered row_of (picked test params) (λ r. rowid r ∷ f r) q u 1 xs
      (λ id x h among.
      (tested id x h among, λ is. ap (λ s. Int (pos id) ∷ drop 1 s) (laid id x h among is)))
    where
      laid_row : (r : Row) → Has (db table.tree) r → picked test params r ≡ true
          → cast_row table (shown_of project params r) ≡ rowid r ∷ f r
      laid_row r h passes =
          let here = subst (λ l. Has l r) held h in
          let e = of_element row_of 1 xs r here in
          let is = subst (Has (rows_of row_of xs)) e.3 here in
          let shown = laid e.0 e.1 is e.2
          (sym (tested e.0 e.1 is e.2) ∙ sym (ap (picked test params) e.3) ∙ passes) in
          rw e.3 (shown ∙ ap (λ s. Int (pos e.0) ∷ drop 1 s) (sym shown))
