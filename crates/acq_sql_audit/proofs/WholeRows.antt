-- A row that obeys its table is told by the columns that are compared, so tables whose rows are
-- compared as the same are the same.
use Rattle.std.proofs.Common.{◌≡◌, ◌<◌, ◌≤◌, ◌+◌, ◌++◌, ◌∙◌, ◌&&◌, ◌||◌, not, ℕ, zero, suc}
use Rattle.std.proofs.Common.{Bool, true, false, true≢false, List, [], ◌∷◌, map, drop, length}
use Rattle.std.proofs.Common.{Option, Some, refl, sym, ap, ap₂, subst, subst₂, arith}
use Rattle.std.proofs.lemmas.List.{append_assoc, length-append}
use Rattle.std.specs.List.{AllByRecursion, range_with_len}
use Rattle.sqlite_value.specs.declared.value.Value.{Value}
use Rattle.sqlite_value.specs.declared.value.Value.TheVariants.{Null, Int, Real, Text, Blob}
use Rattle.sqlite_value.specs.Order.{Row, column}
use Rattle.sqlite_sql.specs.Ops.{is_null}
use Rattle.sqlite_trees.specs.Tree.{Trees}
use Rattle.sqlite_schema.specs.declared.schema.Column.{Column}
use Rattle.sqlite_schema.specs.declared.schema.Constraint.TheVariants.{Datatype, NotNull}
use Rattle.sqlite_schema.specs.declared.schema.Schema.{Schema}
use Rattle.sqlite_schema.specs.declared.schema.Table.{Table as Declared}
use Rattle.sqlite_schema.specs.Names.{is_key}
use Rattle.sqlite_schema.specs.Rules.{are_present, are_typed, passes}
use Rattle.sqlite_catalog.specs.Listing.{IsSound}
use Rattle.sqlite.specs.Effect.{Database, IsDatabase}
use Rattle.acq_sql_rows.specs.declared.form.Form.{Form}
use Rattle.acq_sql_rows.specs.Schema.{IsBookSchema, at_tree, book, book_schema, book_tree}
use Rattle.acq_sql_rows.specs.Schema.{merchants, merchants_tree, postings, postings_tree, ranges}
use Rattle.acq_sql_rows.specs.Schema.{ranges_tree, reconciliations, reconciliations_tree}
use Rattle.acq_sql_rows.specs.Schema.{requests, requests_tree, running, running_tree, terminals}
use Rattle.acq_sql_rows.specs.Schema.{terminals_tree}
use Rattle.acq_sql_audit.specs.Compared.{HaveSameRows, cells_of, tree_of}
use Rattle.acq_sql_audit.specs.declared.table.Table.{Table}
use Rattle.acq_sql_audit.specs.declared.table.Table.TheVariants.{Book, Merchants, Terminals}
use Rattle.acq_sql_audit.specs.declared.table.Table.TheVariants.{Ranges, Requests, Postings}
use Rattle.acq_sql_audit.specs.declared.table.Table.TheVariants.{Reconciliations, Running}

-- ---- how long a row is

and_left : (a b : Bool) → (a && b) ≡ true → a ≡ true
and_left true b h = refl
and_left false b h = absurd (true≢false (sym h))

and_right : (a b : Bool) → (a && b) ≡ true → b ≡ true
and_right true b h = h
and_right false b h = absurd (true≢false (sym h))

-- no longer than its columns
typed_short : (key : Option ℕ) (at : ℕ) (cs : List Column) (vs : Row)
    → are_typed key at cs vs ≡ true → length vs ≤ length cs
typed_short key at [] [] typed = omega arith
typed_short key at [] (v ∷ vs) typed = absurd (true≢false (sym typed))
typed_short key at (c ∷ cs) [] typed = omega arith
typed_short key at (c ∷ cs) (v ∷ vs) typed =
    omega (arith, typed_short key (at + 1) cs vs (and_right _ _ typed))

-- the last column has a value in each row
abbrev pub ends_needed : Option ℕ → ℕ → List Column → Bool
ends_needed key at [] = false
ends_needed key at (c ∷ []) = c.not_null && not (is_key key at)
ends_needed key at (c ∷ d ∷ cs) = ends_needed key (at + 1) (d ∷ cs)

last_there : (key not_null null : Bool) → (not_null && not key) ≡ true
    → (key || not not_null || not null) ≡ true → null ≡ false
last_there true not_null null needed there =
    absurd (true≢false (sym (and_right not_null false needed)))
last_there false false null needed there = absurd (true≢false (sym needed))
last_there false true true needed there = absurd (true≢false (sym there))
last_there false true false needed there = refl

last_present : (key : Option ℕ) (at : ℕ) (cs : List Column) (row : Row)
    → ends_needed key at cs ≡ true → are_present key at cs row ≡ true
    → is_null (column row (at + length cs)) ≡ false
last_present key at [] row needed there = absurd (true≢false (sym needed))
last_present key at (c ∷ []) row needed there =
    last_there (is_key key at) c.not_null (is_null (column row (at + 1))) needed
    (and_left _ _ there)
last_present key at (c ∷ d ∷ cs) row needed there =
    let next : at + 1 + length (d ∷ cs) ≡ at + length (c ∷ d ∷ cs) = omega arith in
    subst (λ n. is_null (column row n) ≡ false) next
    (last_present key (at + 1) (d ∷ cs) row needed (and_right _ _ there))

past_null : (row : Row) (n : ℕ) → length row ≤ n → column row n ≡ Null
past_null [] n past = refl
past_null (v ∷ row) zero past = absurd (omega arith)
past_null (v ∷ row) (suc n) past = past_null row n (omega arith)

longer : (a b : ℕ) → (a ≤ b → ⊥) → b < a
longer zero b never = absurd (never (omega arith))
longer (suc a) zero never = omega arith
longer (suc a) (suc b) never =
    let h = longer a b (λ l. never (omega (arith, l))) in omega (arith, h)

-- a rowid, and then a value for each column
exact : (key : Option ℕ) (cs : List Column) (row : Row) → ends_needed key 0 cs ≡ true
    → are_typed key 0 cs (drop 1 row) ≡ true → are_present key 0 cs row ≡ true
    → length row ≡ suc (length cs)
exact key cs row needed typed there =
    let last = last_present key 0 cs row needed there in
    let from : 0 + length cs ≡ length cs = omega arith in
    let over = longer (length row) (length cs)
    (λ past. true≢false (sym (ap is_null (past_null row (length cs) past))
    ∙ subst (λ n. is_null (column row n) ≡ false) from last)) in
    go row (typed_short key 0 cs (drop 1 row) typed) over
  where
    go : (r : Row) → length (drop 1 r) ≤ length cs → length cs < length r
        → length r ≡ suc (length cs)
    go [] short over = absurd (omega (arith, over))
    go (v ∷ r) short over = omega (arith, short, over)

-- ---- the columns that are compared

column_behind : (front : Row) (v : Value) (row : Row)
    → column (front ++ v ∷ row) (length front) ≡ v
column_behind [] v row = refl
column_behind (w ∷ front) v row = column_behind front v row

each_column : (front row : Row)
    → map (column (front ++ row)) (range_with_len (length front) (length row)) ≡ row
each_column front [] = refl
each_column front (v ∷ row) =
    ap₂ (λ w l. w ∷ l) (column_behind front v row)
    (subst₂ (λ l n. map (column l) (range_with_len n (length row)) ≡ row)
    (append_assoc front (v ∷ []) row) (length-append front (v ∷ []))
    (each_column (front ++ v ∷ []) row))

-- the row that they are of; the column that is low's own stands empty
abbrev pub whole_of : Table → Row → Row
whole_of Ranges [] = []
whole_of Ranges (low ∷ cells) = low ∷ Null ∷ cells
whole_of table cells = cells

module _ (schema : Schema) (db : Trees) (t : Declared)
    (needed : ends_needed t.key 0 t.columns ≡ true) (row : Row)
    (typed : passes Datatype schema db t row ≡ true)
    (there : passes NotNull schema db t row ≡ true) where
  is_exact : length row ≡ suc (length t.columns)
  is_exact = exact t.key t.columns row needed (and_left _ _ typed) there

  each_told : map (column row) (range_with_len 0 (suc (length t.columns))) ≡ row
  each_told =
      subst (λ n. map (column row) (range_with_len 0 n) ≡ row) is_exact (each_column [] row)

low_told : (row : Row) → length row ≡ 5 → is_null (column row 1) ≡ true
    → whole_of Ranges (cells_of Ranges row) ≡ row
low_told (a ∷ Null ∷ c ∷ d ∷ e ∷ []) long empty = refl
low_told (a ∷ Int n ∷ row) long empty = absurd (true≢false (sym empty))
low_told (a ∷ Real x ∷ row) long empty = absurd (true≢false (sym empty))
low_told (a ∷ Text t ∷ row) long empty = absurd (true≢false (sym empty))
low_told (a ∷ Blob b ∷ row) long empty = absurd (true≢false (sym empty))
low_told row long empty = absurd (omega arith)

low_empty : (row : Row) → are_typed (Some 0) 0 ranges.columns (drop 1 row) ≡ true
    → is_null (column row 1) ≡ true
low_empty [] typed = refl
low_empty (a ∷ []) typed = refl
low_empty (a ∷ b ∷ row) typed = and_left _ _ typed

-- ---- all rows

all_both : (P Q R : Row → Type 0) → ((row : Row) → P row → Q row → R row) → (rows : List Row)
    → AllByRecursion P rows → AllByRecursion Q rows → AllByRecursion R rows
all_both P Q R f [] p q = tt
all_both P Q R f (row ∷ rows) p q = (f row p.0 q.0, all_both P Q R f rows p.1 q.1)

abbrev AreTold : Table → Trees → Type 0
AreTold table db =
    AllByRecursion (λ row. whole_of table (cells_of table row) ≡ row) (db (tree_of table))

module _ (form : Form) (db : Trees) (sound : IsSound (book_schema form) db) where
  are_told : (table : Table) → AreTold table db
  unfolding book_schema
  are_told Book =
      all_both _ _ _ (each_told (book_schema form) db (at_tree book book_tree) refl)
      (db book_tree) (sound.obeys.rules Datatype).0 (sound.obeys.rules NotNull).0
  are_told Merchants =
      all_both _ _ _ (each_told (book_schema form) db (at_tree merchants merchants_tree) refl)
      (db merchants_tree) (sound.obeys.rules Datatype).1.0 (sound.obeys.rules NotNull).1.0
  are_told Terminals =
      all_both _ _ _ (each_told (book_schema form) db (at_tree terminals terminals_tree) refl)
      (db terminals_tree) (sound.obeys.rules Datatype).1.1.0 (sound.obeys.rules NotNull).1.1.0
  are_told Ranges =
      all_both _ _ _ (λ row typed there. low_told row
      (is_exact (book_schema form) db (at_tree ranges ranges_tree) refl row typed there)
      (low_empty row (and_left _ _ typed)))
      (db ranges_tree) (sound.obeys.rules Datatype).1.1.1.0 (sound.obeys.rules NotNull).1.1.1.0
  are_told Requests =
      all_both _ _ _ (each_told (book_schema form) db (at_tree (requests form) requests_tree) refl)
      (db requests_tree) (sound.obeys.rules Datatype).1.1.1.1.0
      (sound.obeys.rules NotNull).1.1.1.1.0
  are_told Postings =
      all_both _ _ _ (each_told (book_schema form) db (at_tree (postings form) postings_tree) refl)
      (db postings_tree) (sound.obeys.rules Datatype).1.1.1.1.1.0
      (sound.obeys.rules NotNull).1.1.1.1.1.0
  are_told Reconciliations =
      all_both _ _ _
      (each_told (book_schema form) db (at_tree (reconciliations form) reconciliations_tree) refl)
      (db reconciliations_tree) (sound.obeys.rules Datatype).1.1.1.1.1.1.0
      (sound.obeys.rules NotNull).1.1.1.1.1.1.0
  are_told Running =
      all_both _ _ _ (each_told (book_schema form) db (at_tree running running_tree) refl)
      (db running_tree) (sound.obeys.rules Datatype).1.1.1.1.1.1.1.0
      (sound.obeys.rules NotNull).1.1.1.1.1.1.1.0

each_back : (table : Table) (rows : List Row)
    → AllByRecursion (λ row. whole_of table (cells_of table row) ≡ row) rows
    → map (whole_of table) (map (cells_of table) rows) ≡ rows
each_back table [] told = refl
each_back table (row ∷ rows) told = ap₂ (λ r l. r ∷ l) told.0 (each_back table rows told.1)

-- tables whose rows are compared as the same are the same
pub same_trees : (a b : Database) → IsBookSchema a.schema → IsBookSchema b.schema
    → IsDatabase a → IsDatabase b → HaveSameRows a.trees b.trees
    → (table : Table) → a.trees (tree_of table) ≡ b.trees (tree_of table)
same_trees a b has had sound firm same table =
    sym (each_back table (a.trees (tree_of table))
    (are_told has.0 a.trees (subst (λ s. IsSound s a.trees) has.1 sound) table))
    ∙ ap (map (whole_of table)) (same table)
    ∙ each_back table (b.trees (tree_of table))
    (are_told had.0 b.trees (subst (λ s. IsSound s b.trees) had.1 firm) table)
