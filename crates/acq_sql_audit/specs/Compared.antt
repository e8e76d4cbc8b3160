-- What two databases of a book are compared by: for each table the columns of its rows, in order.
use Rattle.std.specs.Prelude.{◌≡◌, ℕ, List, [], ◌∷◌, map, codes}
use Rattle.std.specs.List.{range_with_len}
use Rattle.sqlite_value.specs.Order.{Row, column}
use Rattle.sqlite_trees.specs.Tree.{Trees, IsTable}
use Rattle.sqlite.specs.Effect.{Database}
use Rattle.acq_sql_rows.specs.Schema.{book_tree, merchants_tree, terminals_tree, ranges_tree}
use Rattle.acq_sql_rows.specs.Schema.{requests_tree, postings_tree, reconciliations_tree}
use Rattle.acq_sql_rows.specs.Schema.{running_tree, IsBookSchema}
use Rattle.acq_sql_audit.specs.declared.table.Table.{Table}
use Rattle.acq_sql_audit.specs.declared.table.Table.TheVariants.{Book, Merchants, Terminals}
use Rattle.acq_sql_audit.specs.declared.table.Table.TheVariants.{Ranges, Requests, Postings}
use Rattle.acq_sql_audit.specs.declared.table.Table.TheVariants.{Reconciliations, Running}
use Rattle.acq_sql_audit.specs.declared.table.TheConstants.{BOOK, MERCHANTS, TERMINALS, RANGES}
use Rattle.acq_sql_audit.specs.declared.table.TheConstants.{REQUESTS, POSTINGS, RECONCILIATIONS}
use Rattle.acq_sql_audit.specs.declared.table.TheConstants.{RUNNING, TABLES}

-- in the order in which they are compared
abbrev pub all_tables : List Table
all_tables = TABLES.now

-- ---- names

abbrev pub name_of : Table → List ℕ
name_of Book = codes "book"
name_of Merchants = codes "merchants"
name_of Terminals = codes "terminals"
name_of Ranges = codes "ranges"
name_of Requests = codes "requests"
name_of Postings = codes "postings"
name_of Reconciliations = codes "reconciliations"
name_of Running = codes "running"

abbrev pub columns_of : Table → List (List ℕ)
columns_of Book = codes "rowid" ∷ codes "version" ∷ codes "max_a_day" ∷ codes "day" ∷ []
columns_of Merchants = codes "rowid" ∷ codes "merchant" ∷ codes "currency" ∷ codes "first" ∷ []
columns_of Terminals = codes "rowid" ∷ codes "merchant" ∷ codes "terminal" ∷ []
columns_of Ranges = codes "low" ∷ codes "high" ∷ codes "issuer" ∷ codes "hold_days" ∷ []
columns_of Requests =
    codes "rowid" ∷ codes "merchant" ∷ codes "terminal" ∷ codes "kind" ∷ codes "trace"
    ∷ codes "stamp" ∷ codes "essence" ∷ codes "day" ∷ codes "status" ∷ codes "admitted"
    ∷ codes "reference" ∷ codes "follows" ∷ codes "amount" ∷ codes "leg" ∷ codes "card"
    ∷ codes "acquirer" ∷ codes "hold_days" ∷ codes "until" ∷ codes "reply" ∷ []
columns_of Postings =
    codes "rowid" ∷ codes "merchant" ∷ codes "day" ∷ codes "number" ∷ codes "leg"
    ∷ codes "amount" ∷ codes "reference" ∷ codes "card" ∷ codes "terminal" ∷ codes "trace" ∷ []
columns_of Reconciliations =
    codes "rowid" ∷ codes "merchant" ∷ codes "day" ∷ codes "number" ∷ codes "in_balance" ∷ []
columns_of Running =
    codes "rowid" ∷ codes "merchant" ∷ codes "day" ∷ codes "used" ∷ codes "credits"
    ∷ codes "credit_reversals" ∷ codes "debits" ∷ codes "debit_reversals"
    ∷ codes "credit_amount" ∷ codes "credit_reversal_amount" ∷ codes "debit_amount"
    ∷ codes "debit_reversal_amount" ∷ []

abbrev pub select_of : Table → List ℕ
select_of Book = BOOK.now
select_of Merchants = MERCHANTS.now
select_of Terminals = TERMINALS.now
select_of Ranges = RANGES.now
select_of Requests = REQUESTS.now
select_of Postings = POSTINGS.now
select_of Reconciliations = RECONCILIATIONS.now
select_of Running = RUNNING.now

-- ---- rows

abbrev pub tree_of : Table → ℕ
tree_of Book = book_tree
tree_of Merchants = merchants_tree
tree_of Terminals = terminals_tree
tree_of Ranges = ranges_tree
tree_of Requests = requests_tree
tree_of Postings = postings_tree
tree_of Reconciliations = reconciliations_tree
tree_of Running = running_tree

-- the places of its columns in a row; column 0 is the rowid, which is the low of a range
abbrev pub places_of : Table → List ℕ
places_of Book = range_with_len 0 4
places_of Merchants = range_with_len 0 4
places_of Terminals = range_with_len 0 3
places_of Ranges = 0 ∷ 2 ∷ 3 ∷ 4 ∷ []
places_of Requests = range_with_len 0 19
places_of Postings = range_with_len 0 10
places_of Reconciliations = range_with_len 0 5
places_of Running = range_with_len 0 12

-- what is compared of a row
abbrev pub cells_of : Table → Row → Row
cells_of table row = map (column row) (places_of table)

-- what is compared of a table
abbrev pub rows_in : Table → Trees → List Row
rows_in table trees = map (cells_of table) (trees (tree_of table))

-- each table has the same rows in both, in the same order
abbrev pub HaveSameRows : Trees → Trees → Type 0
HaveSameRows a b = (table : Table) → rows_in table a ≡ rows_in table b

-- each table lists its rows in order of rowid, as a store does
abbrev pub AreInOrder : Trees → Type 0
AreInOrder trees = (table : Table) → IsTable (trees (tree_of table))

-- a database with a book's tables can be compared with another
pub record IsComparable (db : Database) : Type 0 where
  pub schema : IsBookSchema db.schema
  pub in_order : AreInOrder db.trees
