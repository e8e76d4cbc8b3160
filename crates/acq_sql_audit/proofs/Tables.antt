-- What the queries of the comparison answer: the rows of a table, as it lists them.
use Rattle.std.proofs.Common.{◌≡◌, ◌-◌, ◌++◌, ◌∙◌, true, List, [], ◌∷◌}
use Rattle.std.proofs.Common.{map, take, length, slice_get, Option, Some, None, Less}
use Rattle.std.proofs.Common.{refl, sym, ap, subst, arith}
use Rattle.std.specs.List.{AllByRecursion}
use Rattle.std.specs.List.Sorted.{IsPermutation}
use Rattle.std.proofs.lemmas.List.{append-nil, append_assoc}
use Rattle.sqlite_value.specs.Order.{Row, column, value_cmp}
use Rattle.sqlite_value.proofs.OrderLemmas.{then-Equal}
use Rattle.sqlite_trees.specs.Tree.{IsAscending, IsTable}
use Rattle.sqlite_sql.specs.Query.{Output, output_cmp}
use Rattle.sqlite.specs.State.{State, Shown}
use Rattle.row_lemmas.proofs.ListReads.{shows_keyed}
use Rattle.acq_sql_rows.specs.Schema.{IsBookSchema, book_schema}
use Rattle.acq_sql_reads.specs.Shown.{AreFirst}
use Rattle.acq_sql_reads.proofs.Ordering.{filter_all, sorted_total}
use Rattle.acq_sql_reads.proofs.Visiting.{AreOwn}
use Rattle.acq_sql_reads.proofs.Walking.{ShowsList, front}
use Rattle.acq_sql_audit.specs.Answered.{Follows, Tells}
use Rattle.acq_sql_audit.specs.Compared.{cells_of, columns_of, places_of, rows_in, select_of}
use Rattle.acq_sql_audit.specs.Compared.{tree_of}
use Rattle.acq_sql_audit.specs.Differences.{IsSame, StandsAt}
use Rattle.acq_sql_audit.specs.declared.difference.Difference.{Difference}
use Rattle.acq_sql_audit.specs.declared.table.Table.{Table}
use Rattle.acq_sql_audit.proofs.InOrder.{rises_already}
use Rattle.acq_sql_audit.proofs.Selects.{asks, query_of, shows_places}

each_itself : {X : Type 0} (xs : List X) → map (λ x. x) xs ≡ xs
each_itself [] = refl
each_itself (x ∷ xs) = ap (λ l. x ∷ l) (each_itself xs)

ascending_as : {X : Type 0} (R T : X → X → Type 0) → ((a b : X) → R a b → T a b) → (xs : List X)
    → IsAscending R xs → IsAscending T xs
ascending_as R T f [] up = tt
ascending_as R T f (x ∷ xs) up = (all xs up.0, ascending_as R T f xs up.1)
  where
    all : (ys : List _) → AllByRecursion (R x) ys → AllByRecursion (T x) ys
    all [] a = tt
    all (y ∷ ys) a = (f x y a.0, all ys a.1)

-- ---- in order of rowid

module _ (table : Table) where
  abbrev out : Row → Output
  out row = (column row 0 ∷ [], cells_of table row)

  rowids_compare : (a b : Row)
      → output_cmp (query_of table) (out a) (out b) ≡ value_cmp (column a 0) (column b 0)
  rowids_compare a b = then-Equal (value_cmp (column a 0) (column b 0))

  module _ (s : State) (has : IsBookSchema s.now.schema)
      (up : IsTable (s.now.trees (tree_of table))) where
    pub found : (rows : List Row) → Shown (select_of table) [] s s rows
        → rows ≡ rows_in table s.now.trees
    found rows shown =
        let ask = asks table in
        let it = query_of table in
        let xs = s.now.trees (tree_of table) in
        let all = shows_keyed (λ row. row) (book_schema has.0) (tree_of table) xs s s has.1
        (sym (each_itself xs)) (select_of table) [] _ (ask.plain has.0) (ask.unlisted has.0) rows
        shown it.filter it.project (λ row. true) (λ row. refl) it.order it.limit out
        (λ row. ap (λ l. (column row 0 ∷ [], l)) (shows_places row (places_of table)))
        (ask.is has.0) in
        let rising = ascending_as (λ a b. value_cmp (column a 0) (column b 0) ≡ Less)
        (λ a b. output_cmp it (out a) (out b) ≡ Less) (λ a b low. rowids_compare a b ∙ low) xs up in
        all.3
        ∙ ap (map (cells_of table)) (rises_already (λ a b. output_cmp it (out a) (out b))
        (sorted_total it out) xs all.0 rising
        (subst (λ l. IsPermutation l all.0) (filter_all xs) all.1) all.2)

    own : (ys : List Row) → AreOwn (λ row x. row ≡ x) (λ x. x) ys
    own ys y x here is = sym is

    listed : ShowsList (select_of table) [] s (λ row x. row ≡ x) (query_of table) (λ x. x)
        (rows_in table s.now.trees)
    listed =
        record {
          names = columns_of table;
          ask = asks table;
          has = has;
          found = λ rows shown. found rows shown ∙ sym (each_itself (rows_in table s.now.trees));
          own = own (rows_in table s.now.trees);
        }

    pub begun : (rows : List Row) → AreFirst (select_of table) [] s rows
        → (tail : List Row) × (rows ++ tail ≡ rows_in table s.now.trees)
    begun rows first =
        let it = front listed rows first in
        (it.0, it.1 ∙ each_itself (rows_in table s.now.trees))

-- ---- the first rows, and the next

take_front : {X : Type 0} (xs ys : List X) → take (length xs) (xs ++ ys) ≡ xs
take_front [] ys = refl
take_front (x ∷ xs) ys = ap (λ l. x ∷ l) (take_front xs ys)

next_is : {X : Type 0} (xs : List X) (y : X) (ys : List X)
    → slice_get (xs ++ y ∷ ys) (length xs) ≡ Some y
next_is [] y ys = refl
next_is (x ∷ xs) y ys = next_is xs y ys

none_next : {X : Type 0} (xs : List X) → slice_get xs (length xs) ≡ None
none_next [] = refl
none_next (x ∷ xs) = none_next xs

-- the rows before the next one, and the next one
record Continues (all rows : List Row) (x : Option Row) : Type 0 where
  pub before : take (length rows) all ≡ rows
  pub next : slice_get all (length rows) ≡ x

continues : (table : Table) (s : State) → IsBookSchema s.now.schema
    → IsTable (s.now.trees (tree_of table)) → (rows : List Row) (x : Option Row)
    → Follows (select_of table) s rows x → Continues (rows_in table s.now.trees) rows x
continues table s has up rows None shown =
    subst (λ l. Continues l rows None) (found table s has up rows shown)
    (record {
      before = ap (take (length rows)) (sym (append-nil rows)) ∙ take_front rows [];
      next = none_next rows;
    })
continues table s has up rows (Some row) first =
    let it = begun table s has up (rows ++ row ∷ []) first in
    let is = sym (append_assoc rows (row ∷ []) it.0) ∙ it.1 in
    subst (λ l. Continues l rows (Some row)) is
    (record {
      before = take_front rows (row ∷ it.0);
      next = next_is rows row it.0;
    })

module _ (table : Table) (file made : State) (has : IsBookSchema file.now.schema)
    (had : IsBookSchema made.now.schema) (up : IsTable (file.now.trees (tree_of table)))
    (rises : IsTable (made.now.trees (tree_of table))) where
  pub same_told : Tells table file made None → IsSame file.now.trees made.now.trees table
  same_told told =
      sym (found table file has up told.0 told.1) ∙ found table made had rises told.0 told.2

  pub difference_told : (d : Difference) → Tells table file made (Some d)
      → (d.table ≡ table) × StandsAt file.now.trees made.now.trees d
  difference_told d (rows, x, y, theirs, ours, of_table, row, differ) =
      let a = continues table file has up rows x theirs in
      let b = continues table made had rises rows y ours in
      let before : d.row - 1 ≡ length rows = omega (arith, row) in (
        of_table,
        record {
          counted = omega (arith, row);
          before = rw (before, of_table) (a.before ∙ sym b.before);
          differs = rw (before, of_table, a.next, b.next) differ;
        },
      )
