-- The tables in the schema, and that a write of one leaves the others.
use Rattle.std.proofs.Common.{◌≡◌, ◌≢◌, ◌==◌, ℕ, Bool, true, false, true≢false, cond, List, [], ◌∷◌}
use Rattle.std.proofs.Common.{map, slice_get, Some, refl, sym, ap, subst, ◌∙◌}
use Rattle.std.specs.List.{AllByRecursion}
use Rattle.sqlite_value.specs.Order.{Row}
use Rattle.sqlite_trees.specs.Tree.{Trees}
use Rattle.sqlite_schema.specs.declared.schema.Table.{Table}
use Rattle.sqlite_schema.specs.declared.schema.Keys.{Keys}
use Rattle.sqlite_catalog.specs.Listing.{IsSound}
use Rattle.sqlite_rules.specs.Action.{works}
use Rattle.sqlite_rules.specs.Edit.{Edit, Applies}
use Rattle.sqlite.specs.Effect.{Database, IsDatabase}
use Rattle.row_lemmas.specs.Numbered.{numbered_from, rows_of}
use Rattle.row_lemmas.specs.Created.{IsBlank}
use Rattle.row_lemmas.proofs.StatementEffects.{bare}
use Rattle.acq_core.specs.Tables.{Tables, Opening, new_tables}
use Rattle.acq_sql_rows.specs.declared.form.Form.{Form}
use Rattle.acq_sql_rows.specs.Schema.{book_schema, book_tree, merchants_tree}
use Rattle.acq_sql_rows.specs.Schema.{terminals_tree}
use Rattle.acq_sql_rows.specs.Schema.{ranges_tree, requests_tree, postings_tree}
use Rattle.acq_sql_rows.specs.Schema.{reconciliations_tree, running_tree}
use Rattle.acq_sql_rows.specs.Schema as schema
use Rattle.acq_sql_rows.specs.Tallies.{Running, AreApart}
use Rattle.acq_sql_rows.specs.Rows.{version, book_row, book_row_of, merchant_row, terminal_row}
use Rattle.acq_sql_rows.specs.Rows.{request_row, posting_row, reconciliation_row, running_row}
use Rattle.acq_sql_rows.specs.Relation.{HoldsRows, HoldsRowsBut, AreRising, AreRecorded}
use Rattle.acq_sql_rows.proofs.SameKeys.{number_same, number_itself}

-- ---- the tables at their trees

abbrev pub the_book : Table
the_book = record schema.book { tree = book_tree }

abbrev pub the_merchants : Table
the_merchants = record schema.merchants { tree = merchants_tree }

abbrev pub the_terminals : Table
the_terminals = record schema.terminals { tree = terminals_tree }

abbrev pub the_ranges : Table
the_ranges = record schema.ranges { tree = ranges_tree }

abbrev pub the_requests : Form → Table
the_requests form = record (schema.requests form) { tree = requests_tree }

abbrev pub the_postings : Form → Table
the_postings form = record (schema.postings form) { tree = postings_tree }

abbrev pub the_reconciliations : Form → Table
the_reconciliations form = record (schema.reconciliations form) { tree = reconciliations_tree }

abbrev pub the_running : Table
the_running = record schema.running { tree = running_tree }

pub book_placed : (form : Form) → slice_get (book_schema form).tables 0 ≡ Some (bare the_book)
unfolding book_schema
book_placed form = refl

pub merchants_placed : (form : Form) → slice_get (book_schema form).tables 1
    ≡ Some (bare the_merchants)
unfolding book_schema
merchants_placed form = refl

pub terminals_placed : (form : Form) → slice_get (book_schema form).tables 2
    ≡ Some (bare the_terminals)
unfolding book_schema
terminals_placed form = refl

pub ranges_placed : (form : Form) → slice_get (book_schema form).tables 3 ≡ Some (bare the_ranges)
unfolding book_schema
ranges_placed form = refl

pub requests_placed : (form : Form) → slice_get (book_schema form).tables 4
    ≡ Some (bare (the_requests form))
unfolding book_schema
requests_placed form = refl

pub postings_placed : (form : Form) → slice_get (book_schema form).tables 5
    ≡ Some (bare (the_postings form))
unfolding book_schema
postings_placed form = refl

pub reconciliations_placed : (form : Form) → slice_get (book_schema form).tables 6
    ≡ Some (bare (the_reconciliations form))
unfolding book_schema
reconciliations_placed form = refl

pub running_placed : (form : Form) → slice_get (book_schema form).tables 7 ≡ Some (bare the_running)
unfolding book_schema
running_placed form = refl

-- no foreign key acts on any of them
pub lone : (form : Form) (tree : ℕ) (keys : Keys) (taken news : List Row)
    → works (book_schema form) keys 0 tree taken news ≡ []
unfolding book_schema
lone form tree keys taken news = refl

-- ---- a write of one table

-- the tree of each table, with the rows that stand there, in a book of this version whose ranges
-- have these rows
abbrev pub rows_at : ℕ → List Row → Tables → List Running → List (ℕ × List Row)
rows_at version ranges t runs =
    (book_tree, numbered_from 1 (book_row_of version t.limit t.day ∷ []))
    ∷ (merchants_tree, rows_of merchant_row t.merchants)
    ∷ (terminals_tree, rows_of terminal_row t.terminals)
    ∷ (ranges_tree, ranges)
    ∷ (requests_tree, rows_of request_row t.requests)
    ∷ (postings_tree, rows_of posting_row t.postings)
    ∷ (reconciliations_tree, rows_of reconciliation_row t.reconciliations)
    ∷ (running_tree, rows_of running_row runs)
    ∷ []

abbrev trees_of : List (ℕ × List Row) → List ℕ
trees_of = map (λ place. place.0)

abbrev HasRows : Trees → List (ℕ × List Row) → Type 0
HasRows db = AllByRecursion (λ place. db place.0 ≡ place.1)

-- an edit of one table leaves the others of these
abbrev pub LeavesOthers : Trees → Trees → ℕ → List ℕ → Type 0
LeavesOthers db next tree = AllByRecursion (λ other. other ≢ tree → next other ≡ db other)

abbrev pub Others : Trees → Trees → ℕ → Type 0
Others db next tree =
    LeavesOthers db next tree
    (book_tree ∷ merchants_tree ∷ terminals_tree ∷ ranges_tree ∷ requests_tree ∷ postings_tree
    ∷ reconciliations_tree ∷ running_tree ∷ [])

pub others_of : (form : Form) (keys : Keys) (db next : Trees) (edit : Edit)
    → Applies (book_schema form) keys db edit next → Others db next edit.table.tree
unfolding book_schema
others_of form keys db next edit applied = applied.tables

-- one tree has these rows, and each other what it had
abbrev pub turn : ℕ → List Row → ℕ × List Row → ℕ × List Row
turn tree rows place = (place.0, cond (place.0 == tree) rows place.1)

others_stay : (db next : Trees) (tree : ℕ) (rows : List Row) → next tree ≡ rows
    → (places : List (ℕ × List Row)) → LeavesOthers db next tree (trees_of places)
    → HasRows db places → HasRows next (map (turn tree rows) places)
others_stay db next tree rows now [] rest has = tt
others_stay db next tree rows now (place ∷ places) rest has = (
  here (place.0 == tree) refl,
  others_stay db next tree rows now places rest.1 has.1,
)
  where
    here : (b : Bool) → (place.0 == tree) ≡ b → next place.0 ≡ cond b rows place.1
    here true is = ap next (number_same place.0 tree is) ∙ now
    here false is =
        rest.0 (λ same. true≢false (sym (ap (λ n. n == tree) same ∙ number_itself tree) ∙ is))
        ∙ has.0

has_rows : (number : ℕ) (ranges : List Row) (db : Database) (t : Tables) (runs : List Running)
    → HoldsRowsBut number ranges db t runs → HasRows db.trees (rows_at number ranges t runs)
has_rows number ranges db t runs h = assumption

holds_rows : (form : Form) (number : ℕ) (ranges : List Row) (db : Database) (t : Tables)
    (runs : List Running) → db.schema ≡ book_schema form
    → IsDatabase db → HasRows db.trees (rows_at number ranges t runs)
    → AreRising t.ranges → AreRecorded t.requests → AreApart runs
    → HoldsRowsBut number ranges db t runs
holds_rows form number ranges db t runs schema_is sound has rising recorded apart =
    record {
      schema = (form, schema_is);
      sound = subst (λ s. IsSound s db.trees) schema_is sound;
      book = has.0;
      merchants = has.1.0;
      terminals = has.1.1.0;
      ranges = has.1.1.1.0;
      rising = rising;
      requests = has.1.1.1.1.0;
      recorded = recorded;
      postings = has.1.1.1.1.1.0;
      reconciliations = has.1.1.1.1.1.1.0;
      running = has.1.1.1.1.1.1.1.0;
      apart = apart;
    }

-- the book's row, and no other
pub book_begun : (form : Form) (db next : Database) → IsBlank (book_schema form) db
    → next.schema ≡ book_schema form → IsDatabase next → Others db.trees next.trees book_tree
    → (opening : Opening)
    → next.trees book_tree ≡ numbered_from 1 (book_row opening.limit opening.first_day ∷ [])
    → HoldsRows next (new_tables opening) []
unfolding book_schema
book_begun form db next none schema_is sound rest opening now =
    holds_rows form version [] next (new_tables opening) [] schema_is sound
    (others_stay db.trees next.trees book_tree _ now
    (map (λ place. (place.0, [])) (rows_at version [] (new_tables opening) [])) rest none.blank)
    tt tt tt

-- one table has other rows, and these are the tables with them
pub turned : {earlier later : ℕ} {was ranges : List Row} (db next : Database) (t : Tables)
    (runs : List Running) (has : HoldsRowsBut earlier was db t runs)
    → next.schema ≡ book_schema has.schema.0 → IsDatabase next
    → (tree : ℕ) (rows : List Row) → Others db.trees next.trees tree → next.trees tree ≡ rows
    → (after : Tables) (now_runs : List Running)
    → map (turn tree rows) (rows_at earlier was t runs) ≡ rows_at later ranges after now_runs
    → AreRising after.ranges → AreRecorded after.requests → AreApart now_runs
    → HoldsRowsBut later ranges next after now_runs
turned {earlier} {later} {was} {ranges} db next t runs has schema_is sound tree rows rest now after
    now_runs same =
    holds_rows has.schema.0 later ranges next after now_runs schema_is sound
    (subst (HasRows next.trees) same
    (others_stay db.trees next.trees tree rows now (rows_at earlier was t runs) rest
    (has_rows earlier was db t runs has)))
