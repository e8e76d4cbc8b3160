-- What a database says of the host's tables.
use Rattle.std.specs.Prelude.{◌≡◌, ℕ, ◌<◌, List, [], ◌∷◌}
use Rattle.std.specs.List.{AllByRecursion}
use Rattle.iso_codec.specs.Message.{IsMessage}
use Rattle.card_no.specs.declared.range.Range.{Range}
use Rattle.sqlite_value.specs.Order.{Row}
use Rattle.sqlite_trees.specs.Tree.{IsAscending}
use Rattle.sqlite_catalog.specs.Listing.{IsSound}
use Rattle.sqlite.specs.Effect.{Database}
use Rattle.row_lemmas.specs.Numbered.{numbered_from, rows_of}
use Rattle.acq_core.specs.declared.request.Request.{Request}
use Rattle.acq_core.specs.Tables.{Tables}
use Rattle.acq_sql_rows.specs.Schema.{IsBookSchema, book_schema}
use Rattle.acq_sql_rows.specs.Schema.{book_tree, merchants_tree, terminals_tree, ranges_tree}
use Rattle.acq_sql_rows.specs.Schema.{requests_tree, postings_tree, reconciliations_tree}
use Rattle.acq_sql_rows.specs.Schema.{running_tree}
use Rattle.acq_sql_rows.specs.Tallies.{Running, AreApart, Tallies, FitsTally, tally_of}
use Rattle.acq_sql_rows.specs.Rows.{version, book_row_of, merchant_row, terminal_row, range_rows}
use Rattle.acq_sql_rows.specs.Rows.{turned_rows, request_row, posting_row, reconciliation_row}
use Rattle.acq_sql_rows.specs.Rows.{running_row}

-- in order of low
abbrev pub AreRising : List Range → Type 0
AreRising = IsAscending (λ a b. a.low < b.low)

-- each reply is a message, so its spelling reads as that message alone
abbrev pub AreRecorded : List Request → Type 0
AreRecorded = AllByRecursion (λ row. IsMessage row.reply)

-- each table has the rows of its list, in the list's order, in a book of this version; but the
-- ranges have these rows
pub record HoldsRowsBut (version : ℕ) (rows : List Row) (db : Database) (t : Tables)
    (runs : List Running) : Type 0 where
  pub schema : IsBookSchema db.schema
  -- the trees list the schema and obey it, so an open finds it
  pub sound : IsSound (book_schema schema.0) db.trees
  pub book : db.trees book_tree ≡ numbered_from 1 (book_row_of version t.limit t.day ∷ [])
  pub merchants : db.trees merchants_tree ≡ rows_of merchant_row t.merchants
  pub terminals : db.trees terminals_tree ≡ rows_of terminal_row t.terminals
  pub ranges : db.trees ranges_tree ≡ rows
  pub rising : AreRising t.ranges
  pub requests : db.trees requests_tree ≡ rows_of request_row t.requests
  pub recorded : AreRecorded t.requests
  pub postings : db.trees postings_tree ≡ rows_of posting_row t.postings
  pub reconciliations : db.trees reconciliations_tree ≡ rows_of reconciliation_row t.reconciliations
  pub running : db.trees running_tree ≡ rows_of running_row runs
  pub apart : AreApart runs

-- the ranges have the rows of their list, too
abbrev pub HoldsRowsOf : ℕ → Database → Tables → List Running → Type 0
HoldsRowsOf version db t = HoldsRowsBut version (range_rows t.ranges) db t

-- the same, but -1 - low stands in place of each low
abbrev pub HoldsTurnedOf : ℕ → Database → Tables → List Running → Type 0
HoldsTurnedOf version db t = HoldsRowsBut version (turned_rows t.ranges) db t

-- the database holds the tables in a book of this version, and its running totals are those of the
-- lists
pub record HoldsOf (version : ℕ) (db : Database) (t : Tables) : Type 0 where
  pub runs : List Running
  pub rows : HoldsRowsOf version db t runs
  pub tallied : Tallies runs t
  -- what a day comes to stays within its columns
  pub short : (merchant : List ℕ) (day : ℕ) → FitsTally (tally_of t merchant day)

-- the same of the version in force
abbrev pub HoldsRows : Database → Tables → List Running → Type 0
HoldsRows = HoldsRowsOf version

abbrev pub Holds : Database → Tables → Type 0
Holds = HoldsOf version
