-- What making a book leaves, and when it fails.
use Rattle.std.specs.Prelude.{◌≡◌, ◌+◌, ◌<◌, ◌^◌, ℕ, true, false, List, length, codes}
use Rattle.std.specs.Prelude.{Ok, Result, OnOk, OnErr, IsTrue}
use Rattle.sqlite_value.specs.declared.value.Value.TheVariants.{Text}
use Rattle.sqlite_schema.specs.declared.schema.Index.{Index}
use Rattle.sqlite_schema.specs.declared.schema.Schema.{Schema}
use Rattle.sqlite_schema.specs.declared.schema.Table.{Table}
use Rattle.sqlite_schema.specs.Rules.{table_reals}
use Rattle.sqlite_resolve.specs.Compile.{index_defined_by}
use Rattle.sqlite_catalog.specs.Change.{created, indexed, next_tree, is_used, is_reserved}
use Rattle.sqlite_catalog.specs.Listing.{IsSound, is_fit}
use Rattle.sqlite.specs.declared.error.Error.{Error}
use Rattle.sqlite.specs.Effect.{Database}
use Rattle.sqlite.specs.Listing.{understood}
use Rattle.sqlite.specs.State.{State, HasCleanDisk}
use Rattle.row_lemmas.specs.Created.{Makes, Indexes, IsBlank, IsAllowed, are_ascii}
use Rattle.row_lemmas.proofs.StatementFailures.{tail_of, names_of}
use Rattle.acq_core.specs.Tables.{Opening, new_tables}
use Rattle.acq_sql_rows.specs.Standing.{IsAt}
use Rattle.acq_sql_writes.specs.Refused.{HasNumbersLeft}
use Rattle.acq_sql_writes.specs.Widened.{IsNeverRefused}

-- the database is sound and has this schema, with no rows
pub record IsNew (schema : Schema) (db : Database) : Type 0 where
  pub rows : IsBlank schema db
  pub sound : IsSound schema db.trees

-- a statement that succeeded adds the table that its text defines, with no rows
abbrev pub AddsTable : {T : Type 0} → State → State → Result T Error → List ℕ → Type 0
AddsTable old new result sql =
    HasCleanDisk new → IsTrue old.in_transaction → (schema : Schema) (table : Table)
    → Makes schema sql table → IsBlank schema old.now
    → OnOk result (IsNew (created schema table) new.now)

-- the same of an index
abbrev pub AddsIndex : {T : Type 0} → State → State → Result T Error → List ℕ → Type 0
AddsIndex old new result sql =
    HasCleanDisk new → IsTrue old.in_transaction → (schema : Schema) (at : ℕ) (table : Table)
    (index : Index) → Indexes schema sql at table index → IsBlank schema old.now
    → OnOk result (IsNew (indexed schema table index) new.now)

-- the same of a table and an index of it
abbrev pub AddsIndexed : {T : Type 0} → State → State → Result T Error → List ℕ → List ℕ → Type 0
AddsIndexed old new result sql index_sql =
    HasCleanDisk new → IsTrue old.in_transaction → (schema : Schema) (table : Table) (at : ℕ)
    (placed : Table) (index : Index) → Makes schema sql table
    → Indexes (created schema table) index_sql at placed index → IsBlank schema old.now
    → OnOk result (IsNew (indexed (created schema table) placed index) new.now)

-- statements that succeeded lead from one schema with no rows to another
abbrev pub Extends : {T : Type 0} → State → State → Result T Error → Schema → Schema → Type 0
Extends old new result from to =
    HasCleanDisk new → IsTrue old.in_transaction → IsBlank from old.now
    → OnOk result (IsNew to new.now)

-- ---- when a statement fails

-- the text is one statement with no parameter
pub record IsAlone (schema : Schema) (sql : List ℕ) : Type 0 where
  pub whole : tail_of (understood schema sql) ≡ length sql
  pub given : names_of (understood schema sql) ≡ 0

-- all that has to be computed of a text, to know that it makes a table
pub record TakesTable (schema : Schema) (sql : List ℕ) (table : Table) : Type 0 where
  pub makes : Makes schema sql table
  pub allowed : IsAllowed schema sql table
  pub alone : IsAlone schema sql

-- all that has to be computed of a text, to know that its index may be made
pub record IsIndexAllowed (schema : Schema) (sql : List ℕ) (table : Table) (index : Index) : Type 0
  where
    pub index_is : index_defined_by table sql ≡ Ok index
    pub text : are_ascii sql ≡ true
    pub name : are_ascii index.name ≡ true
    pub owner : are_ascii table.name ≡ true
    pub unreserved : is_reserved index.name ≡ false
    pub unused : is_used schema index.name ≡ false
    pub room : next_tree schema < 65536
    pub no_reals : table_reals table ≡ 0
    pub fit : is_fit (Text (codes "index")) (Text index.name) (Text table.name) (Text sql) ≡ true
    pub short : length index.name + length table.name + length sql + 200 < 10 ^ 9

-- the same, to know that it makes an index
pub record TakesIndex (schema : Schema) (sql : List ℕ) (at : ℕ) (table : Table) (index : Index)
    : Type 0 where
  pub makes : Indexes schema sql at table index
  pub allowed : IsIndexAllowed schema sql table index
  pub alone : IsAlone schema sql

abbrev pub HasSchema : Schema → Database → Type 0
HasSchema schema db = db.schema ≡ schema

-- over a schema that takes its table, a statement fails only for memory or since the store failed
abbrev pub RefusesNoTable : {T : Type 0} → State → State → Result T Error → List ℕ → Type 0
RefusesNoTable old new result sql =
    (schema : Schema) (table : Table) → TakesTable schema sql table
    → IsNeverRefused old new result (HasSchema schema)

-- over a schema that takes its index, and with no rows, so does a statement
abbrev pub RefusesNoIndex : {T : Type 0} → State → State → Result T Error → List ℕ → Type 0
RefusesNoIndex old new result sql =
    (schema : Schema) (at : ℕ) (table : Table) (index : Index)
    → TakesIndex schema sql at table index → IsNeverRefused old new result (IsBlank schema)

-- and so do those of a table and an index of it
abbrev pub RefusesNoIndexed :
    {T : Type 0} → State → State → Result T Error → List ℕ → List ℕ → Type 0
RefusesNoIndexed old new result sql index_sql =
    (schema : Schema) (table : Table) (at : ℕ) (placed : Table) (index : Index)
    → TakesTable schema sql table → TakesIndex (created schema table) index_sql at placed index
    → IsNeverRefused old new result (IsBlank schema)

-- ---- the whole book

-- the connection is at the tables of a new book, which have no rows yet
pub record IsNewBook (opening : Opening) (s : State) : Type 0 where
  pub at : IsAt s (new_tables opening)
  pub numbers : HasNumbersLeft s.now

-- a call that failed leaves the database as it was between two transactions
abbrev pub LeavesDatabase : {T E : Type 0} → State → State → Result T E → Type 0
LeavesDatabase old new result =
    HasCleanDisk new → IsTrue new.is_open → old.now ≡ old.committed
    → OnErr result ((new.now ≡ old.now) × (new.committed ≡ old.committed))
