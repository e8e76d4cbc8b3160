-- The tables of the file, and the texts that make them (`src/tables.rt`).
use Rattle.std.specs.Prelude.{◌≡◌, Bool, true, false, [], ◌∷◌, List, ℕ, Option, Some, None, codes}
use Rattle.sqlite_value.specs.declared.keys.Collation.TheVariants.{Binary}
use Rattle.sqlite_value.specs.declared.value.Value.TheVariants.{Null}
use Rattle.sqlite_value.specs.Keys.{plain}
use Rattle.sqlite_value.specs.declared.keys.Order.{Order}
use Rattle.sqlite_schema.specs.declared.schema.Column.{Column}
use Rattle.sqlite_schema.specs.declared.schema.Index.{Index}
use Rattle.sqlite_schema.specs.declared.schema.Table.{Table}
use Rattle.sqlite_schema.specs.declared.schema.Schema.{Schema}
use Rattle.sqlite_schema.specs.declared.schema.Kind.{Kind}
use Rattle.sqlite_schema.specs.declared.schema.Kind.TheVariants.{Integer, Text}
use Rattle.sqlite_catalog.specs.Change.{created, indexed}
use Rattle.sqlite_catalog.specs.Listing.{automatic}
use Rattle.acq_sql_rows.specs.declared.form.Form.{Form}
use Rattle.acq_sql_rows.specs.declared.form.Form.TheVariants.{Unique, Plain}
use Rattle.acq_sql_rows.specs.declared.tables.TheConstants.{BOOK, MERCHANTS, TERMINALS, RANGES}
use Rattle.acq_sql_rows.specs.declared.tables.TheConstants.{REQUESTS, REFERENCES, POSTINGS}
use Rattle.acq_sql_rows.specs.declared.tables.TheConstants.{RECONCILIATIONS, RUNNING}
use Rattle.acq_sql_rows.specs.declared.tables.TheConstants.{UNIQUE_REQUESTS, UNIQUE_POSTINGS}
use Rattle.acq_sql_rows.specs.declared.tables.TheConstants.{UNIQUE_RECONCILIATIONS, KEYS}
use Rattle.acq_sql_rows.specs.declared.tables.TheConstants.{POSTING_NUMBERS}
use Rattle.acq_sql_rows.specs.declared.tables.TheConstants.{RECONCILIATION_NUMBERS}

-- what stands there with unique keys, or with plain indexes
abbrev pub by_form : {A : Type 0} → Form → A → A → A
by_form Unique unique indexed = unique
by_form Plain unique indexed = indexed

-- ---- the tree of each; between them stand the trees of their indexes

abbrev pub book_tree : ℕ
book_tree = 0

abbrev pub merchants_tree : ℕ
merchants_tree = 1

abbrev pub terminals_tree : ℕ
terminals_tree = 3

abbrev pub ranges_tree : ℕ
ranges_tree = 5

abbrev pub requests_tree : ℕ
requests_tree = 6

abbrev pub postings_tree : ℕ
postings_tree = 8

abbrev pub reconciliations_tree : ℕ
reconciliations_tree = 10

abbrev pub running_tree : ℕ
running_tree = 12

-- ---- columns and tables

abbrev pub column_of : Bool → List ℕ → Kind → Column
column_of not_null name kind =
    record {
      name = name;
      kind = kind;
      is_strict = true;
      not_null = not_null;
      default = Null;
      collation = Binary;
    }

-- a column that has a value in each row, and one that may have none
abbrev pub need : List ℕ → Kind → Column
need = column_of true

abbrev pub may : List ℕ → Kind → Column
may = column_of false

-- a STRICT table whose columns alone make it
abbrev pub table_of :
    List ℕ → List Column → Option ℕ → List ℕ → List (List ℕ) → List Order → Table
table_of name columns key primary uniques orders =
    record {
      name = name;
      tree = 0;
      columns = columns;
      key = key;
      primary = primary;
      uniques = uniques;
      orders = orders;
      checks = [];
      references = [];
      computed = [];
      stamps = record { places = []; terms = []; formats = [] };
      is_counted = false;
    }

-- ---- the book: one row

abbrev pub book_text : List ℕ
book_text = BOOK.now

abbrev pub book : Table
book =
    table_of (codes "book")
    (need (codes "version") Integer ∷ need (codes "max_a_day") Integer
    ∷ need (codes "day") Integer ∷ [])
    None [] [] []

-- ---- merchants

abbrev pub merchants_text : List ℕ
merchants_text = MERCHANTS.now

abbrev pub merchants : Table
merchants =
    table_of (codes "merchants")
    (need (codes "merchant") Text ∷ need (codes "currency") Text
    ∷ need (codes "first") Integer ∷ [])
    None (1 ∷ []) ((1 ∷ []) ∷ []) (plain ∷ [])

-- ---- terminals

abbrev pub terminals_text : List ℕ
terminals_text = TERMINALS.now

abbrev pub terminals : Table
terminals =
    table_of (codes "terminals")
    (need (codes "merchant") Text ∷ need (codes "terminal") Text ∷ [])
    None (1 ∷ 2 ∷ []) ((1 ∷ 2 ∷ []) ∷ []) (plain ∷ [])

-- ---- ranges: low is the rowid, whose column stands empty

abbrev pub ranges_text : List ℕ
ranges_text = RANGES.now

abbrev pub ranges : Table
ranges =
    table_of (codes "ranges")
    (may (codes "low") Integer ∷ need (codes "high") Integer ∷ need (codes "issuer") Text
    ∷ need (codes "hold_days") Integer ∷ [])
    (Some 0) (0 ∷ []) [] []

-- ---- requests

abbrev pub requests_text : Form → List ℕ
requests_text form = by_form form UNIQUE_REQUESTS.now REQUESTS.now

abbrev pub requests : Form → Table
requests form =
    table_of (codes "requests")
    (need (codes "merchant") Text ∷ need (codes "terminal") Text ∷ need (codes "kind") Text
    ∷ need (codes "trace") Text ∷ need (codes "stamp") Text ∷ need (codes "essence") Text
    ∷ need (codes "day") Integer ∷ need (codes "status") Integer
    ∷ need (codes "admitted") Integer ∷ may (codes "reference") Integer
    ∷ may (codes "follows") Integer ∷ need (codes "amount") Integer ∷ need (codes "leg") Integer
    ∷ may (codes "card") Text ∷ may (codes "acquirer") Text ∷ may (codes "hold_days") Integer
    ∷ may (codes "until") Integer ∷ need (codes "reply") Text ∷ [])
    None (by_form form (1 ∷ 2 ∷ 3 ∷ 4 ∷ 5 ∷ []) []) (by_form form ((1 ∷ 2 ∷ 3 ∷ 4 ∷ 5 ∷ []) ∷ [])
    [])
    (by_form form (plain ∷ []) [])

-- ---- postings

abbrev pub postings_text : Form → List ℕ
postings_text form = by_form form UNIQUE_POSTINGS.now POSTINGS.now

abbrev pub postings : Form → Table
postings form =
    table_of (codes "postings")
    (need (codes "merchant") Text ∷ need (codes "day") Integer ∷ need (codes "number") Integer
    ∷ need (codes "leg") Integer ∷ need (codes "amount") Integer
    ∷ need (codes "reference") Integer ∷ need (codes "card") Text ∷ need (codes "terminal") Text
    ∷ need (codes "trace") Text ∷ [])
    None (by_form form (2 ∷ 1 ∷ 3 ∷ []) []) (by_form form ((2 ∷ 1 ∷ 3 ∷ []) ∷ []) [])
    (by_form form (plain ∷ []) [])

-- ---- reconciliations

abbrev pub reconciliations_text : Form → List ℕ
reconciliations_text form = by_form form UNIQUE_RECONCILIATIONS.now RECONCILIATIONS.now

abbrev pub reconciliations : Form → Table
reconciliations form =
    table_of (codes "reconciliations")
    (need (codes "merchant") Text ∷ need (codes "day") Integer ∷ need (codes "number") Integer
    ∷ need (codes "in_balance") Integer ∷ [])
    None (by_form form (2 ∷ 1 ∷ 3 ∷ []) []) (by_form form ((2 ∷ 1 ∷ 3 ∷ []) ∷ []) [])
    (by_form form (plain ∷ []) [])

-- ---- running totals of each merchant and day

abbrev pub running_text : List ℕ
running_text = RUNNING.now

abbrev pub running : Table
running =
    table_of (codes "running")
    (need (codes "merchant") Text ∷ need (codes "day") Integer ∷ need (codes "used") Integer
    ∷ need (codes "credits") Integer ∷ need (codes "credit_reversals") Integer
    ∷ need (codes "debits") Integer ∷ need (codes "debit_reversals") Integer
    ∷ need (codes "credit_amount") Integer ∷ need (codes "credit_reversal_amount") Integer
    ∷ need (codes "debit_amount") Integer ∷ need (codes "debit_reversal_amount") Integer ∷ [])
    None (1 ∷ 2 ∷ []) ((1 ∷ 2 ∷ []) ∷ []) (plain ∷ [])

-- ---- plain indexes

-- a plain index of a table that stands at this tree
abbrev pub index_of : List ℕ → ℕ → List ℕ → Index
index_of name table columns =
    record {
      name = name;
      tree = 0;
      table = table;
      columns = columns;
      order = plain;
      is_unique = false;
    }

abbrev pub keys_text : List ℕ
keys_text = KEYS.now

abbrev pub keys : Index
keys = index_of (codes "requests_by_key") requests_tree (1 ∷ 2 ∷ 3 ∷ 4 ∷ 5 ∷ [])

abbrev pub posting_numbers_text : List ℕ
posting_numbers_text = POSTING_NUMBERS.now

abbrev pub posting_numbers : Index
posting_numbers = index_of (codes "postings_by_number") postings_tree (2 ∷ 1 ∷ 3 ∷ [])

abbrev pub reconciliation_numbers_text : List ℕ
reconciliation_numbers_text = RECONCILIATION_NUMBERS.now

abbrev pub reconciliation_numbers : Index
reconciliation_numbers =
    index_of (codes "reconciliations_by_number") reconciliations_tree (2 ∷ 1 ∷ 3 ∷ [])

-- Look-ups by reference go through it. It is no unique key: those of one merchant that have no
-- reference would be compared with each other at each row, and that none is given twice is a law.
abbrev pub references_text : List ℕ
references_text = REFERENCES.now

abbrev pub references : Index
references = index_of (codes "requests_by_reference") requests_tree (1 ∷ 10 ∷ [])

-- ---- all eight and their indexes

abbrev pub no_schema : Schema
no_schema = record { tables = []; indexes = []; views = [] }

abbrev pub at_tree : Table → ℕ → Table
at_tree table tree = record table { tree = tree }

-- the index of a table's key at this tree: the one that SQLite makes for a unique key, or a plain
-- one
abbrev pub key_index : Form → Table → Index → ℕ → Index
key_index form table index tree =
    record index {
      name = by_form form (automatic table 0 index.columns tree).name index.name;
      tree = tree;
      is_unique = by_form form true false;
    }

unfoldable pub book_schema : Form → Schema
book_schema form =
    record {
      tables =
          at_tree book book_tree ∷ at_tree merchants merchants_tree
          ∷ at_tree terminals terminals_tree ∷ at_tree ranges ranges_tree
          ∷ at_tree (requests form) requests_tree ∷ at_tree (postings form) postings_tree
          ∷ at_tree (reconciliations form) reconciliations_tree ∷ at_tree running running_tree
          ∷ [];
      indexes =
          automatic (at_tree merchants merchants_tree) 0 (1 ∷ []) 2
          ∷ automatic (at_tree terminals terminals_tree) 0 (1 ∷ 2 ∷ []) 4
          ∷ key_index form (at_tree (requests form) requests_tree) keys 7
          ∷ key_index form (at_tree (postings form) postings_tree) posting_numbers 9
          ∷ key_index form (at_tree (reconciliations form) reconciliations_tree)
          reconciliation_numbers 11
          ∷ automatic (at_tree running running_tree) 0 (1 ∷ 2 ∷ []) 13
          ∷ record references { tree = 14 } ∷ [];
      views = [];
    }

-- it is a book's, in one of the two forms
abbrev pub IsBookSchema : Schema → Type 0
IsBookSchema schema = (form : Form) × (schema ≡ book_schema form)

-- ---- the statements that make them, one behind the other

unfoldable pub up_to_book : Schema
up_to_book = created no_schema book

unfoldable pub up_to_merchants : Schema
unfolding up_to_book
up_to_merchants = created up_to_book merchants

unfoldable pub up_to_terminals : Schema
unfolding up_to_merchants
up_to_terminals = created up_to_merchants terminals

unfoldable pub up_to_ranges : Schema
unfolding up_to_terminals
up_to_ranges = created up_to_terminals ranges

-- a table is made, and a plain index of it where its key isn't unique
abbrev pub keyed : Form → Schema → Table → ℕ → Index → Schema
keyed form schema table tree index =
    by_form form (created schema table) (indexed (created schema table) (at_tree table tree) index)

unfoldable pub up_to_requests : Form → Schema
unfolding up_to_ranges
up_to_requests form = keyed form up_to_ranges (requests form) requests_tree keys

unfoldable pub up_to_postings : Form → Schema
unfolding up_to_requests
up_to_postings form = keyed form (up_to_requests form) (postings form) postings_tree posting_numbers

unfoldable pub up_to_reconciliations : Form → Schema
unfolding up_to_postings
up_to_reconciliations form =
    keyed form (up_to_postings form) (reconciliations form) reconciliations_tree
    reconciliation_numbers

unfoldable pub up_to_running : Form → Schema
unfolding up_to_reconciliations
up_to_running form = created (up_to_reconciliations form) running
