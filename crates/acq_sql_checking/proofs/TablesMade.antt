-- What making the tables makes, and that none of them is refused.
use Rattle.std.proofs.Common.{◌≡◌, ◌+◌, ◌-◌, ◌*◌, ◌^◌, ◌==◌, ℕ, Bool, true, false, not, ◌&&◌}
use Rattle.std.proofs.Common.{List, [], length, codes, slice_get, slice_range, nat_lt, None, Some}
use Rattle.std.proofs.Common.{Ok, Err, Result}
use Rattle.std.proofs.Common.{OnOk, refl, sym, ap, subst, ◌∙◌, arith, eqb-true}
use Rattle.std.specs.List.{list_all}
use Rattle.std.proofs.lemmas.Bool.{and_parts, ltb-true, not-true}
use Rattle.std.proofs.lemmas.List.{take_all}
use Rattle.sqlite_value.specs.declared.value.Value.TheVariants.{Text}
use Rattle.sqlite_value.specs.Order as order
use Rattle.sqlite_trees.specs.Sound as sound
use Rattle.sqlite_schema.specs.declared.command.Command.{Command}
use Rattle.sqlite_schema.specs.declared.command.Command.TheVariants.{CreateTable, CreateIndex}
use Rattle.sqlite_schema.specs.declared.schema.Index.{Index}
use Rattle.sqlite_schema.specs.declared.schema.Schema.{Schema}
use Rattle.sqlite_schema.specs.declared.schema.Table.{Table}
use Rattle.sqlite_schema.specs.Rules.{table_reals}
use Rattle.sqlite_resolve.specs.declared.compiled.Compiled.{Compiled}
use Rattle.sqlite_resolve.specs.Compile.{table_defined_by, index_defined_by}
use Rattle.sqlite_catalog.specs.Change.{created, indexed, next_tree, automatics}
use Rattle.sqlite_catalog.specs.Change.{is_used, is_reserved}
use Rattle.sqlite_catalog.specs.Listing.{IsSound, is_formed, is_fit}
use Rattle.sqlite_tied.specs.Compute.{everything}
use Rattle.sqlite.specs.declared.error.Error.{Error}
use Rattle.sqlite.specs.Does.{lacks_sequence}
use Rattle.sqlite.specs.Listing.{understood}
use Rattle.sqlite.specs.State.{State, ExecutesInside}
use Rattle.sqlite.proofs.Callers.{IsPlain, command_of, statement_of, runs_as}
use Rattle.row_lemmas.specs.Created.{Makes, Indexes, IsBlank, are_ascii}
use Rattle.row_lemmas.proofs.CreatedTables.{table_made, blank_made}
use Rattle.row_lemmas.proofs.CreatedIndexes.{index_made, blank_indexed}
use Rattle.row_lemmas.proofs.StatementFailures.{tail_of, names_of}
use Rattle.acq_sql_rows.specs.declared.form.Form.{Form}
use Rattle.acq_sql_rows.specs.declared.form.Form.TheVariants.{Unique, Plain}
use Rattle.acq_sql_rows.specs.Schema as schema
use Rattle.acq_sql_rows.proofs.SchemaLemmas as text_is
use Rattle.acq_sql_writes.specs.Widened.{IsNeverRefused}
use Rattle.acq_sql_writes.specs.Written.{CommitsNothing, KeepsCommitted, StaysInside}
use Rattle.acq_sql_checking.specs.Made.{IsNew, AddsTable, AddsIndex, AddsIndexed, IsAlone}
use Rattle.acq_sql_checking.specs.Made.{TakesTable, TakesIndex, Extends, RefusesNoTable}
use Rattle.acq_sql_checking.proofs.Reaching.{Reached, reached}

pub table_added : (sql : List ℕ) (old new : State) (res : Result ℕ Error) (schema : Schema)
    (table : Table)
    → Makes schema sql table → IsBlank schema old.now → ExecutesInside 0 sql [] old new res
    → OnOk res (IsNew (created schema table) new.now)
table_added sql old new (Err e) schema table makes blank does = tt
table_added sql old new (Ok count) schema table makes blank does =
    let rows = blank_made schema table old new blank
    (table_made schema sql table makes old new (Ok count) blank.schema_is does.0) in
    let ran = runs_as sql [] old new schema blank.schema_is CreateTable makes.command makes.plain
    count does.0 in
    record {
      rows = rows;
      sound = subst (λ s. IsSound s new.now.trees) rows.schema_is ran.sound;
    }

pub index_added : (sql : List ℕ) (old new : State) (res : Result ℕ Error) (schema : Schema)
    (at : ℕ) (table : Table) (index : Index)
    → Indexes schema sql at table index → IsBlank schema old.now
    → ExecutesInside 0 sql [] old new res → OnOk res (IsNew (indexed schema table index) new.now)
index_added sql old new (Err e) schema at table index makes blank does = tt
index_added sql old new (Ok count) schema at table index makes blank does =
    let rows = blank_indexed schema table index old new blank
    (index_made schema sql at table index makes old new (Ok count) blank.schema_is does.0) in
    let ran = runs_as sql [] old new schema blank.schema_is (CreateIndex at) makes.command
    makes.plain count does.0 in
    record {
      rows = rows;
      sound = subst (λ s. IsSound s new.now.trees) rows.schema_is ran.sound;
    }

-- ---- what has to be computed of a text

-- a statement with no parameter, which is the whole text
abbrev bare : Command → List ℕ → Compiled
bare command sql =
    record {
      command = command;
      returning = None;
      names = [];
      formats = [];
      start = 0;
      end = length sql;
      tail = length sql;
    }

-- a schema understands the text so
abbrev Means : Schema → List ℕ → Command → Type 0
Means schema sql command = understood schema sql ≡ Ok (bare command sql)

whole_text : (sql : List ℕ) → slice_range sql 0 (length sql) ≡ sql
whole_text sql = take_all (length sql - 0) sql (omega arith)

alone : (schema : Schema) (sql : List ℕ) (command : Command) → Means schema sql command
    → IsAlone schema sql
alone schema sql command is = record { whole = ap tail_of is; given = ap names_of is }

-- the table and its text pass each test
abbrev passes : Schema → List ℕ → Table → Bool
passes schema sql table =
    are_ascii sql && (are_ascii table.name && (not (is_reserved table.name)
    && (not (is_used schema table.name)
    && (list_all (λ i. not (is_used schema i.name)) (automatics table 0 0 table.uniques)
    && (nat_lt (next_tree schema + length table.uniques) 65536
    && ((table_reals table == 0) && (is_formed table
    && (is_fit (Text (codes "table")) (Text table.name) (Text table.name) (Text sql)
    && nat_lt (2 * length table.name + length sql + 200) (10 ^ 9)))))))))

abbrev index_passes : Schema → List ℕ → Table → Index → Bool
index_passes schema sql table index =
    are_ascii sql && (are_ascii index.name && (are_ascii table.name
    && (not (is_reserved index.name) && (not (is_used schema index.name)
    && (nat_lt (next_tree schema) 65536 && ((table_reals table == 0)
    && (is_fit (Text (codes "index")) (Text index.name) (Text table.name) (Text sql)
    && nat_lt (length index.name + length table.name + length sql + 200) (10 ^ 9))))))))

table_taken : (schema : Schema) (sql : List ℕ) (table : Table) → Means schema sql CreateTable
    → table_defined_by sql ≡ Ok table → lacks_sequence (created schema table) ≡ false
    → passes schema sql table ≡ true → TakesTable schema sql table
table_taken schema sql table is defined plain tests =
    let t1 = and_parts _ _ tests in
    let t2 = and_parts _ _ t1.1 in
    let t3 = and_parts _ _ t2.1 in
    let t4 = and_parts _ _ t3.1 in
    let t5 = and_parts _ _ t4.1 in
    let t6 = and_parts _ _ t5.1 in
    let t7 = and_parts _ _ t6.1 in
    let t8 = and_parts _ _ t7.1 in
    let t9 = and_parts _ _ t8.1 in
    record {
      makes = record {
        command = ap command_of is;
        statement = ap (statement_of sql) is ∙ whole_text sql;
        plain = subst IsPlain (sym is) (refl, refl);
        table_is = defined;
        uncounted = plain;
      };
      allowed = record {
        table_is = defined;
        text = t1.0;
        name = t2.0;
        unreserved = not-true _ t3.0;
        unused = not-true _ t4.0;
        keys_unused = t5.0;
        room = ltb-true (next_tree schema + length table.uniques) 65536 t6.0;
        no_reals = eqb-true (table_reals table) 0 t7.0;
        formed = t8.0;
        fit = t9.0;
        short = ltb-true (2 * length table.name + length sql + 200) (10 ^ 9) t9.1;
      };
      alone = alone schema sql CreateTable is;
    }

-- ---- each text

pub takes_book : TakesTable schema.no_schema schema.book_text schema.book
unfolding understood everything sound.fits_kind sound.begins sound.is_free_name sound.same_name
    order.value_cmp lib.Ieee.is_nan lib.Ieee.lt
takes_book =
    table_taken _ _ _ refl text_is.book_is refl refl

pub takes_merchants : TakesTable schema.up_to_book schema.merchants_text schema.merchants
unfolding understood everything sound.fits_kind sound.begins sound.is_free_name sound.same_name
    order.value_cmp lib.Ieee.is_nan lib.Ieee.lt schema.up_to_book
takes_merchants =
    table_taken _ _ _ refl text_is.merchants_is refl refl

pub takes_terminals : TakesTable schema.up_to_merchants schema.terminals_text schema.terminals
unfolding understood everything sound.fits_kind sound.begins sound.is_free_name sound.same_name
    order.value_cmp lib.Ieee.is_nan lib.Ieee.lt schema.up_to_merchants schema.up_to_book
takes_terminals =
    table_taken _ _ _ refl text_is.terminals_is refl refl

pub takes_ranges : TakesTable schema.up_to_terminals schema.ranges_text schema.ranges
unfolding understood everything sound.fits_kind sound.begins sound.is_free_name sound.same_name
    order.value_cmp lib.Ieee.is_nan lib.Ieee.lt schema.up_to_terminals schema.up_to_merchants
    schema.up_to_book
takes_ranges =
    table_taken _ _ _ refl text_is.ranges_is refl refl

-- the index and its text pass each test
index_taken : (schema : Schema) (sql : List ℕ) (at : ℕ) (table : Table) (index : Index)
    → Means schema sql (CreateIndex at) → slice_get schema.tables at ≡ Some table
    → index_defined_by table sql ≡ Ok index → index_passes schema sql table index ≡ true
    → TakesIndex schema sql at table index
index_taken schema sql at table index is placed defined tests =
    let t1 = and_parts _ _ tests in
    let t2 = and_parts _ _ t1.1 in
    let t3 = and_parts _ _ t2.1 in
    let t4 = and_parts _ _ t3.1 in
    let t5 = and_parts _ _ t4.1 in
    let t6 = and_parts _ _ t5.1 in
    let t7 = and_parts _ _ t6.1 in
    let t8 = and_parts _ _ t7.1 in
    record {
      makes = record {
        command = ap command_of is;
        statement = ap (statement_of sql) is ∙ whole_text sql;
        plain = subst IsPlain (sym is) (refl, refl);
        placed = placed;
        index_is = defined;
      };
      allowed = record {
        index_is = defined;
        text = t1.0;
        name = t2.0;
        owner = t3.0;
        unreserved = not-true _ t4.0;
        unused = not-true _ t5.0;
        room = ltb-true (next_tree schema) 65536 t6.0;
        no_reals = eqb-true (table_reals table) 0 t7.0;
        fit = t8.0;
        short = ltb-true (length index.name + length table.name + length sql + 200) (10 ^ 9) t8.1;
      };
      alone = alone schema sql (CreateIndex at) is;
    }

pub takes_requests : (form : Form) → TakesTable schema.up_to_ranges (schema.requests_text form)
    (schema.requests form)
unfolding understood everything sound.fits_kind sound.begins sound.is_free_name sound.same_name
    order.value_cmp lib.Ieee.is_nan lib.Ieee.lt schema.up_to_ranges schema.up_to_terminals
    schema.up_to_merchants schema.up_to_book
takes_requests Unique = table_taken _ _ _ refl (text_is.requests_is Unique) refl refl
takes_requests Plain = table_taken _ _ _ refl (text_is.requests_is Plain) refl refl

pub takes_keys : TakesIndex (created schema.up_to_ranges (schema.requests Plain)) schema.keys_text 4
    (schema.at_tree (schema.requests Plain) schema.requests_tree) schema.keys
unfolding understood everything sound.fits_kind sound.begins sound.is_free_name sound.same_name
    order.value_cmp lib.Ieee.is_nan lib.Ieee.lt schema.up_to_ranges schema.up_to_terminals
    schema.up_to_merchants schema.up_to_book
takes_keys = index_taken _ _ _ _ _ refl refl text_is.keys_is refl

pub takes_postings : (form : Form) → TakesTable (schema.up_to_requests form)
    (schema.postings_text form) (schema.postings form)
unfolding understood everything sound.fits_kind sound.begins sound.is_free_name sound.same_name
    order.value_cmp lib.Ieee.is_nan lib.Ieee.lt schema.up_to_ranges schema.up_to_terminals
    schema.up_to_merchants schema.up_to_book schema.up_to_requests
takes_postings Unique = table_taken _ _ _ refl (text_is.postings_is Unique) refl refl
takes_postings Plain = table_taken _ _ _ refl (text_is.postings_is Plain) refl refl

pub takes_posting_numbers : TakesIndex (created (schema.up_to_requests Plain)
    (schema.postings Plain)) schema.posting_numbers_text 5
    (schema.at_tree (schema.postings Plain) schema.postings_tree) schema.posting_numbers
unfolding understood everything sound.fits_kind sound.begins sound.is_free_name sound.same_name
    order.value_cmp lib.Ieee.is_nan lib.Ieee.lt schema.up_to_ranges schema.up_to_terminals
    schema.up_to_merchants schema.up_to_book schema.up_to_requests
takes_posting_numbers = index_taken _ _ _ _ _ refl refl text_is.posting_numbers_is refl

pub takes_reconciliations : (form : Form) → TakesTable (schema.up_to_postings form)
    (schema.reconciliations_text form) (schema.reconciliations form)
unfolding understood everything sound.fits_kind sound.begins sound.is_free_name sound.same_name
    order.value_cmp lib.Ieee.is_nan lib.Ieee.lt schema.up_to_ranges schema.up_to_terminals
    schema.up_to_merchants schema.up_to_book schema.up_to_requests
    schema.up_to_postings
takes_reconciliations Unique = table_taken _ _ _ refl (text_is.reconciliations_is Unique) refl refl
takes_reconciliations Plain = table_taken _ _ _ refl (text_is.reconciliations_is Plain) refl refl

pub takes_reconciliation_numbers : TakesIndex (created (schema.up_to_postings Plain)
    (schema.reconciliations Plain)) schema.reconciliation_numbers_text 6
    (schema.at_tree (schema.reconciliations Plain) schema.reconciliations_tree)
    schema.reconciliation_numbers
unfolding understood everything sound.fits_kind sound.begins sound.is_free_name sound.same_name
    order.value_cmp lib.Ieee.is_nan lib.Ieee.lt schema.up_to_ranges schema.up_to_terminals
    schema.up_to_merchants schema.up_to_book schema.up_to_requests
    schema.up_to_postings
takes_reconciliation_numbers = index_taken _ _ _ _ _ refl refl text_is.reconciliation_numbers_is
    refl

pub takes_running : (form : Form)
    → TakesTable (schema.up_to_reconciliations form) schema.running_text schema.running
unfolding understood everything sound.fits_kind sound.begins sound.is_free_name sound.same_name
    order.value_cmp lib.Ieee.is_nan lib.Ieee.lt schema.up_to_ranges schema.up_to_terminals
    schema.up_to_merchants schema.up_to_book schema.up_to_requests
    schema.up_to_postings schema.up_to_reconciliations
takes_running Unique = table_taken _ _ _ refl text_is.running_is refl refl
takes_running Plain = table_taken _ _ _ refl text_is.running_is refl refl

pub takes_references : (form : Form)
    → TakesIndex (schema.up_to_running form) schema.references_text 4
    (schema.at_tree (schema.requests form) schema.requests_tree) schema.references
unfolding understood everything sound.fits_kind sound.begins sound.is_free_name sound.same_name
    order.value_cmp lib.Ieee.is_nan lib.Ieee.lt schema.up_to_ranges schema.up_to_terminals
    schema.up_to_merchants schema.up_to_book schema.up_to_requests
    schema.up_to_postings schema.up_to_reconciliations schema.up_to_running
takes_references Unique = index_taken _ _ _ _ _ refl refl (text_is.references_is Unique) refl
takes_references Plain = index_taken _ _ _ _ _ refl refl (text_is.references_is Plain) refl

-- the tables of a book, made one behind the other
all_made : (form : Form)
    → indexed (schema.up_to_running form)
    (schema.at_tree (schema.requests form) schema.requests_tree) schema.references
    ≡ schema.book_schema form
unfolding everything schema.up_to_ranges schema.up_to_terminals schema.up_to_merchants
    schema.up_to_book schema.up_to_requests schema.up_to_postings schema.up_to_reconciliations
    schema.up_to_running schema.book_schema
all_made Unique = refl
all_made Plain = refl

-- ---- where each statement leads

module _ {old new : State} (stop : CommitsNothing old new) (kept : KeepsCommitted old new)
    (inside : StaysInside {T = Unit {0}} old new (Ok tt)) where
  -- one that adds its table
  pub table_reached : {schema : Schema} {sql : List ℕ} {table : Table} → TakesTable schema sql table
      → AddsTable {T = Unit {0}} old new (Ok tt) sql
      → Reached schema (created schema table) old new
  table_reached {schema} {sql} {table} takes adds =
      reached stop kept inside (λ clean within. adds clean within schema table takes.makes)

  pub reaches_book : AddsTable {T = Unit {0}} old new (Ok tt) schema.book_text
      → Reached schema.no_schema schema.up_to_book old new
  unfolding schema.up_to_book
  reaches_book = table_reached takes_book

  pub reaches_merchants : AddsTable {T = Unit {0}} old new (Ok tt) schema.merchants_text
      → Reached schema.up_to_book schema.up_to_merchants old new
  unfolding schema.up_to_merchants
  reaches_merchants = table_reached takes_merchants

  pub reaches_terminals : AddsTable {T = Unit {0}} old new (Ok tt) schema.terminals_text
      → Reached schema.up_to_merchants schema.up_to_terminals old new
  unfolding schema.up_to_terminals
  reaches_terminals = table_reached takes_terminals

  pub reaches_ranges : AddsTable {T = Unit {0}} old new (Ok tt) schema.ranges_text
      → Reached schema.up_to_terminals schema.up_to_ranges old new
  unfolding schema.up_to_ranges
  reaches_ranges = table_reached takes_ranges

  pub reaches_running : (form : Form) → AddsTable {T = Unit {0}} old new (Ok tt) schema.running_text
      → Reached (schema.up_to_reconciliations form) (schema.up_to_running form) old new
  unfolding schema.up_to_running
  reaches_running form = table_reached (takes_running form)

  pub reaches_references : (form : Form)
      → AddsIndex {T = Unit {0}} old new (Ok tt) schema.references_text
      → Reached (schema.up_to_running form) (schema.book_schema form) old new
  reaches_references form adds =
      reached stop kept inside (λ clean within blank.
      subst (λ s. IsNew s new.now) (all_made form)
      (adds clean within (schema.up_to_running form) 4
      (schema.at_tree (schema.requests form) schema.requests_tree) schema.references
      (takes_references form).makes blank))

-- ---- a table in one form or the other

module _ {T : Type 0} (old new : State) (result : Result T Error) where
  -- what is so in one form is so in that which is asked for
  pub extends_as : (form it : Form) → form ≡ it → (from to : Form → Schema)
      → Extends old new result (from it) (to it) → Extends old new result (from form) (to form)
  extends_as form it is from to =
      subst (λ f. Extends old new result (from f) (to f)) (sym is)

  pub never_as : (form it : Form) → form ≡ it → (from : Form → Schema)
      → IsNeverRefused old new result (IsBlank (from it))
      → IsNeverRefused old new result (IsBlank (from form))
  never_as form it is from =
      subst (λ f. IsNeverRefused old new result (IsBlank (from f))) (sym is)

  pub blank_never : (schema : Schema) (sql : List ℕ) (table : Table)
      → TakesTable schema sql table → RefusesNoTable old new result sql
      → IsNeverRefused old new result (IsBlank schema)
  blank_never schema sql table takes fails clean within opened free blank =
      fails schema table takes clean within opened free blank.schema_is

  pub unique_requests : AddsTable old new result (schema.requests_text Unique)
      → Extends old new result schema.up_to_ranges (schema.up_to_requests Unique)
  unfolding schema.up_to_requests
  unique_requests adds clean within =
      adds clean within schema.up_to_ranges (schema.requests Unique) (takes_requests Unique).makes

  pub plain_requests : AddsIndexed old new result (schema.requests_text Plain) schema.keys_text
      → Extends old new result schema.up_to_ranges (schema.up_to_requests Plain)
  unfolding schema.up_to_requests
  plain_requests adds clean within =
      adds clean within schema.up_to_ranges (schema.requests Plain) 4
      (schema.at_tree (schema.requests Plain) schema.requests_tree) schema.keys
      (takes_requests Plain).makes
      takes_keys.makes

  pub unique_postings : AddsTable old new result (schema.postings_text Unique)
      → Extends old new result (schema.up_to_requests Unique) (schema.up_to_postings Unique)
  unfolding schema.up_to_postings
  unique_postings adds clean within =
      adds clean within (schema.up_to_requests Unique) (schema.postings Unique)
      (takes_postings Unique).makes

  pub plain_postings : AddsIndexed old new result (schema.postings_text Plain)
      schema.posting_numbers_text
      → Extends old new result (schema.up_to_requests Plain) (schema.up_to_postings Plain)
  unfolding schema.up_to_postings
  plain_postings adds clean within =
      adds clean within (schema.up_to_requests Plain) (schema.postings Plain) 5
      (schema.at_tree (schema.postings Plain) schema.postings_tree) schema.posting_numbers
      (takes_postings Plain).makes
      takes_posting_numbers.makes

  pub unique_reconciliations : AddsTable old new result (schema.reconciliations_text Unique)
      → Extends old new result (schema.up_to_postings Unique) (schema.up_to_reconciliations Unique)
  unfolding schema.up_to_reconciliations
  unique_reconciliations adds clean within =
      adds clean within (schema.up_to_postings Unique) (schema.reconciliations Unique)
      (takes_reconciliations Unique).makes

  pub plain_reconciliations : AddsIndexed old new result (schema.reconciliations_text Plain)
      schema.reconciliation_numbers_text
      → Extends old new result (schema.up_to_postings Plain) (schema.up_to_reconciliations Plain)
  unfolding schema.up_to_reconciliations
  plain_reconciliations adds clean within =
      adds clean within (schema.up_to_postings Plain) (schema.reconciliations Plain) 6
      (schema.at_tree (schema.reconciliations Plain) schema.reconciliations_tree)
      schema.reconciliation_numbers (takes_reconciliations Plain).makes
      takes_reconciliation_numbers.makes
