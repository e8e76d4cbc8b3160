-- INSERT of a row with a new key never stops.
use Rattle.std.proofs.Common.{◌≡◌, ◌==◌, ◌&&◌, ◌/◌, ◌<◌, ◌≤◌, ◌^◌, ℕ, Bool, true, false}
use Rattle.std.proofs.Common.{List, [], ◌∷◌, length, Option, None, Some, Err, refl, sym, ap, subst}
use Rattle.std.proofs.Common.{◌∙◌, true≢false, slice_get, find, arith, map}
use Rattle.std.specs.List.{AllByRecursion, list_any}
use Rattle.std.specs.Str.{bytes_eq}
use Rattle.std.proofs.lemmas.Bool.{both_ways, false_from_ne_true}
use Rattle.std.proofs.lemmas.Bool.Decides.{nat_tests}
use Rattle.sqlite_value.specs.declared.value.Value.TheVariants.{Null}
use Rattle.sqlite_value.specs.Keys.{first_key}
use Rattle.sqlite_value.specs.Order.{Row}
use Rattle.sqlite_trees.specs.View.{IsShaped}
use Rattle.sqlite_trees.specs.declared.store.Shape.TheVariants as shape
use Rattle.sqlite_sql.specs.Term.{Term}
use Rattle.sqlite_schema.specs.declared.command.Command.TheVariants.{Insert}
use Rattle.sqlite_schema.specs.declared.command.Source.TheVariants.{Values}
use Rattle.sqlite_schema.specs.declared.schema.Index.{Index}
use Rattle.sqlite_schema.specs.declared.schema.Table.{Table}
use Rattle.sqlite_catalog.specs.Listing.{IsSound, automatic}
use Rattle.sqlite_typing.specs.Types.{accepts_terms}
use Rattle.sqlite_rules.specs.Lists.{Has}
use Rattle.sqlite_rules.specs.Steps.{PassAlone}
use Rattle.sqlite_rules.proofs.ListLemmas.{some_from}
use Rattle.sqlite_rules.specs.Cast.{cast_row}
use Rattle.sqlite_rules.specs.Edit.{with_rowid}
use Rattle.sqlite_rules.specs.declared.error.Rowids.TheVariants.{Chosen}
use Rattle.sqlite.specs.declared.error.Error.{Error}
use Rattle.sqlite.specs.declared.run.Mode.{Mode}
use Rattle.sqlite.specs.Effect.{Database, value_rows}
use Rattle.sqlite.specs.Does.{Does}
use Rattle.row_lemmas.specs.Numbered.{rows_of}
use Rattle.row_lemmas.proofs.ColumnTests.{text_test, number_test, and_true}
use Rattle.row_lemmas.proofs.InsertsSucceed.{IsNewRow, insert_succeeds}
use Rattle.row_lemmas.proofs.NewRows.{last_row, last_laid, new_row, HasNewKey}
use Rattle.row_lemmas.proofs.NumberedRows.{numbered_shaped}
use Rattle.row_lemmas.proofs.ShortRows.{IsNarrow, AreShort}
use Rattle.row_lemmas.proofs.StatementEffects.{bare}
use Rattle.row_lemmas.proofs.UniqueKeys.{fits_of}
use Rattle.acq_message.specs.Names.{is_merchant, is_terminal, is_currency, is_trace}
use Rattle.acq_core.specs.declared.merchant.Merchant.{Merchant}
use Rattle.acq_core.specs.declared.terminal.Terminal.{Terminal}
use Rattle.acq_core.specs.declared.posting.Posting.{Posting}
use Rattle.acq_core.specs.declared.reconciliation.Reconciliation.{Reconciliation}
use Rattle.acq_core.specs.Tables.{Tables, Opening}
use Rattle.acq_book.specs.Lookups.{merchant_at, has_terminal_at}
use Rattle.acq_sql_rows.specs.declared.form.Form.{Form}
use Rattle.acq_sql_rows.specs.declared.form.Form.TheVariants.{Unique, Plain}
use Rattle.acq_sql_rows.specs.Schema.{book_schema}
use Rattle.acq_sql_rows.specs.Tallies.{Running}
use Rattle.acq_sql_rows.specs.Rows.{book_row, merchant_row, terminal_row, posting_row}
use Rattle.acq_sql_rows.specs.Rows.{reconciliation_row}
use Rattle.acq_sql_rows.specs.Queries.{new_row as given_row}
use Rattle.acq_sql_rows.specs.Relation.{HoldsRows}
use Rattle.acq_sql_writes.specs.Refused.{IsEmptyBook, HasNumberLeft, is_posting, is_reconciliation}
use Rattle.acq_sql_writes.specs.Refused.{TakesPosting, TakesReconciliation}
use Rattle.acq_sql_writes.proofs.ListWrites.{laid_new_book, laid_merchant, laid_terminal}
use Rattle.acq_sql_writes.proofs.ListWrites.{laid_posting, laid_reconciliation}
use Rattle.acq_sql_writes.proofs.MovedTables as moved
use Rattle.acq_sql_writes.proofs.MovedTables.{plain}
use Rattle.acq_sql_writes.proofs.RunningTotals.{find_none}
use Rattle.acq_sql_writes.proofs.TableRules as rule
use Rattle.acq_sql_rows.proofs.TableTurns as at

-- ---- any table whose rows are numbered

-- an element whose row breaks no rule of its table
pub record IsTakenRow (form : Form) {X : Type 0} (row_of : X → Row) (table : Table) (xs : List X)
    (x : X) : Type 0
  where
    pub room : HasNumberLeft xs
    pub laid : cast_row table (Null ∷ row_of x) ≡ Null ∷ row_of x
    pub pass : PassAlone table (last_row row_of xs x ∷ [])
    pub keys : AllByRecursion (HasNewKey row_of xs x table) (book_schema form).indexes
    pub short : AreShort (row_of x)
    pub some : 0 < length (row_of x)
    pub few : length (row_of x) ≤ 99

module _ (form : Form) {X : Type 0} (row_of : X → Row) (place : ℕ) (t : Table)
    (placed : slice_get (book_schema form).tables place ≡ Some (bare t))
    (listed : Has (book_schema form).tables (bare t)) (narrow : IsNarrow (book_schema form)
    (bare t))
    (mode : Mode) (old : Database) (has : old.schema ≡ book_schema form)
    (sound : IsSound (book_schema form) old.trees) (text : List ℕ) (xs : List X) (x : X)
    (held : old.trees t.tree ≡ rows_of row_of xs) (taken : IsTakenRow form row_of (bare t) xs x)
  where
    is_new : IsNewRow (book_schema form) (bare t) (old.trees t.tree) (last_row row_of xs x)
    is_new =
        subst (λ rows. IsNewRow (book_schema form) (bare t) rows (last_row row_of xs x)) (sym held)
        (new_row row_of xs x (book_schema form) (bare t) narrow taken.room taken.pass taken.keys
        taken.short
        taken.some taken.few)

    shaped : IsShaped shape.Table (old.trees t.tree)
    shaped = subst (IsShaped shape.Table) (sym held) (numbered_shaped 1 (map row_of xs))

    pub row_succeeds : (terms : List Term) (width : ℕ)
        → value_rows (row_of x) width (length terms / width) terms ≡ (Null ∷ row_of x) ∷ []
        → accepts_terms terms (row_of x) ≡ true → (stop : Option Error)
        → ¬ Does None mode (row_of x) old text None (Insert place (Values terms width)) (Err stop)
    row_succeeds terms width one accepted =
        insert_succeeds (book_schema form) (plain form) place t placed listed mode old has
        (fits_of (book_schema form) old.trees sound) shaped.0 text (row_of x) (last_row row_of xs x)
        is_new
        terms width (Null ∷ row_of x) one accepted
        (ap (with_rowid Chosen (old.trees t.tree)) taken.laid
        ∙ ap (λ rows. with_rowid Chosen rows (Null ∷ row_of x)) held ∙ last_laid row_of xs x)

-- an index of another table guards nothing here
pub other : {A : Type 0} → false ≡ true → A
other guarded = absurd (true≢false (sym guarded))

-- ---- each

pub merchant_few : (text : List ℕ) → is_merchant text ≡ true → length text ≤ 10 ^ 6
merchant_few text valid = grind (arith, nat_tests, valid)

pub terminal_few : (text : List ℕ) → is_terminal text ≡ true → length text ≤ 10 ^ 6
terminal_few text valid = grind (arith, nat_tests, valid)

currency_few : (text : List ℕ) → is_currency text ≡ true → length text ≤ 10 ^ 6
currency_few text valid = grind (arith, nat_tests, valid)

pub trace_few : (text : List ℕ) → is_trace text ≡ true → length text ≤ 10 ^ 6
trace_few text valid = grind (arith, nat_tests, valid)

abbrev merchant_key : Index
merchant_key = automatic at.the_merchants 0 (1 ∷ []) 2

merchant_new : (xs : List Merchant) (m : Merchant) → find (λ row. bytes_eq row.id m.id) xs ≡ None
    → HasNewKey merchant_row xs m (bare at.the_merchants) merchant_key
unfolding first_key
merchant_new xs m none g id y h =
    rw (text_test y.id m.id, and_true) (find_none (λ row. bytes_eq row.id m.id) xs y none h)

merchant_keys : (form : Form) (xs : List Merchant) (m : Merchant)
    → find (λ row. bytes_eq row.id m.id) xs ≡ None
    → AllByRecursion (HasNewKey merchant_row xs m (bare at.the_merchants))
    (book_schema form).indexes
unfolding book_schema first_key
merchant_keys Unique xs m none =
    (merchant_new xs m none, (other, (other, (other, (other, (other, (other, tt)))))))
merchant_keys Plain xs m none =
    (merchant_new xs m none, (other, (other, (other, (other, (other, (other, tt)))))))

pub none_at : {X : Type 0} (p : X → Bool) (xs : List X) (x : X) → list_any p xs ≡ false → Has xs x
    → p x ≡ false
none_at p xs x none h = false_from_ne_true _ (λ is. both_ways _ none (some_from p xs x h is))

pub all_two : (a b : Bool) → (a && (b && true)) ≡ (a && b)
all_two true b = and_true b
all_two false b = refl

-- the day, the merchant and the number
all_three : (a b c : Bool) → (b && (a && (c && true))) ≡ (a && b && c)
all_three true true c = and_true c
all_three true false c = refl
all_three false true c = refl
all_three false false c = refl

abbrev terminal_key : Index
terminal_key = automatic at.the_terminals 0 (1 ∷ 2 ∷ []) 4

terminal_new : (xs : List Terminal) (x : Terminal)
    → list_any (λ row. bytes_eq row.merchant x.merchant && bytes_eq row.id x.id) xs ≡ false
    → HasNewKey terminal_row xs x (bare at.the_terminals) terminal_key
unfolding first_key
terminal_new xs x none g id y h =
    rw (text_test y.merchant x.merchant, text_test y.id x.id)
    (all_two (bytes_eq y.merchant x.merchant) (bytes_eq y.id x.id)
    ∙ none_at (λ row. bytes_eq row.merchant x.merchant && bytes_eq row.id x.id) xs y none h)

terminal_keys : (form : Form) (xs : List Terminal) (x : Terminal)
    → list_any (λ row. bytes_eq row.merchant x.merchant && bytes_eq row.id x.id) xs ≡ false
    → AllByRecursion (HasNewKey terminal_row xs x (bare at.the_terminals))
    (book_schema form).indexes
unfolding book_schema
terminal_keys Unique xs x none =
    (other, (terminal_new xs x none, (other, (other, (other, (other, (other, tt)))))))
terminal_keys Plain xs x none =
    (other, (terminal_new xs x none, (other, (other, (other, (other, (other, tt)))))))

-- ---- where keys are plain, nothing else has to be new

abbrev posting_key : Index
posting_key = automatic (at.the_postings Unique) 0 (2 ∷ 1 ∷ 3 ∷ []) 9

posting_new : (xs : List (ℕ × Posting)) (n : ℕ) (p : Posting)
    → list_any (is_posting n p) xs ≡ false
    → HasNewKey posting_row xs (n, p) (bare (at.the_postings Unique)) posting_key
unfolding first_key
posting_new xs n p none g id y h =
    rw (
      number_test y.1.day p.day,
      text_test y.1.merchant p.merchant,
      number_test y.0 n,
    ) (all_three (bytes_eq y.1.merchant p.merchant) (y.1.day == p.day) (y.0 == n)
    ∙ none_at (is_posting n p) xs y none h)

posting_keys : (form : Form) (xs : List (ℕ × Posting)) (n : ℕ) (p : Posting)
    → list_any (is_posting n p) xs ≡ false
    → AllByRecursion (HasNewKey posting_row xs (n, p) (bare (at.the_postings form)))
    (book_schema form).indexes
unfolding book_schema
posting_keys Unique xs n p none =
    (other, (other, (other, (posting_new xs n p none, (other, (other, (other, tt)))))))
posting_keys Plain xs n p none =
    (other, (other, (other, (other, (other, (other, (other, tt)))))))

abbrev reconciliation_key : Index
reconciliation_key = automatic (at.the_reconciliations Unique) 0 (2 ∷ 1 ∷ 3 ∷ []) 11

reconciliation_new : (xs : List (ℕ × Reconciliation)) (n : ℕ) (r : Reconciliation)
    → list_any (is_reconciliation n r) xs ≡ false
    → HasNewKey reconciliation_row xs (n, r) (bare (at.the_reconciliations Unique))
    reconciliation_key
unfolding first_key
reconciliation_new xs n r none g id y h =
    rw (
      number_test y.1.day r.day,
      text_test y.1.merchant r.merchant,
      number_test y.0 n,
    ) (all_three (bytes_eq y.1.merchant r.merchant) (y.1.day == r.day) (y.0 == n)
    ∙ none_at (is_reconciliation n r) xs y none h)

reconciliation_keys : (form : Form) (xs : List (ℕ × Reconciliation)) (n : ℕ)
    (r : Reconciliation) → list_any (is_reconciliation n r) xs ≡ false
    → AllByRecursion (HasNewKey reconciliation_row xs (n, r) (bare (at.the_reconciliations form)))
    (book_schema form).indexes
unfolding book_schema
reconciliation_keys Unique xs n r none =
    (other, (other, (other, (other, (reconciliation_new xs n r none, (other, (other, tt)))))))
reconciliation_keys Plain xs n r none =
    (other, (other, (other, (other, (other, (other, (other, tt)))))))

-- the row of a new book
abbrev opening_row : Opening → Row
opening_row opening = book_row opening.limit opening.first_day

opening_keys : (form : Form) (opening : Opening)
    → AllByRecursion (HasNewKey opening_row [] opening (bare at.the_book))
    (book_schema form).indexes
unfolding book_schema first_key
opening_keys Unique opening =
    (other, (other, (other, (other, (other, (other, (other, tt)))))))
opening_keys Plain opening =
    (other, (other, (other, (other, (other, (other, (other, tt)))))))

pub book_succeeds : (mode : Mode) (old : Database) (text : List ℕ) (opening : Opening)
    → IsEmptyBook old → (stop : Option Error)
    → ¬ Does None mode (opening_row opening) old text None (Insert 0 (Values (given_row 3) 4))
    (Err stop)
unfolding book_schema
book_succeeds mode old text opening empty =
    row_succeeds empty.form opening_row 0 at.the_book (at.book_placed empty.form)
    (moved.book_listed empty.form) (moved.book_narrow empty.form) mode
    old empty.rows.schema_is empty.sound text [] opening empty.rows.blank.0
    (record {
      room = omega arith;
      laid = laid_new_book opening.limit opening.first_day;
      pass = record { typed = refl; present = refl; checked = refl };
      keys = opening_keys empty.form opening;
      short = (tt, (tt, (tt, tt)));
      some = omega arith;
      few = omega arith;
    }) (given_row 3) 4 refl refl

module _ (mode : Mode) (old : Database) (text : List ℕ) (t : Tables) (runs : List Running)
    (has : HoldsRows old t runs) where
  pub merchant_succeeds : (m : Merchant) → is_merchant m.id ≡ true → is_currency m.currency ≡ true
      → merchant_at t m.id ≡ None → HasNumberLeft t.merchants → (stop : Option Error)
      → ¬ Does None mode (merchant_row m) old text None (Insert 1 (Values (given_row 3) 4))
      (Err stop)
  merchant_succeeds m named priced none room =
      row_succeeds has.schema.0 merchant_row 1 at.the_merchants (at.merchants_placed has.schema.0)
      (rule.merchants_listed has.schema.0)
      (rule.merchants_narrow has.schema.0) mode old has.schema.1 has.sound text t.merchants m
      has.merchants
      (record {
        room = room;
        laid = laid_merchant m;
        pass = record { typed = refl; present = refl; checked = refl };
        keys = merchant_keys has.schema.0 t.merchants m none;
        short = (merchant_few m.id named, (currency_few m.currency priced, (tt, tt)));
        some = omega arith;
        few = omega arith;
      }) (given_row 3) 4 refl refl

  pub terminal_succeeds : (x : Terminal) → is_merchant x.merchant ≡ true → is_terminal x.id ≡ true
      → has_terminal_at t x.merchant x.id ≡ false → HasNumberLeft t.terminals
      → (stop : Option Error)
      → ¬ Does None mode (terminal_row x) old text None (Insert 2 (Values (given_row 2) 3))
      (Err stop)
  terminal_succeeds x named numbered none room =
      row_succeeds has.schema.0 terminal_row 2 at.the_terminals (at.terminals_placed has.schema.0)
      (rule.terminals_listed has.schema.0)
      (rule.terminals_narrow has.schema.0) mode old has.schema.1 has.sound text t.terminals x
      has.terminals
      (record {
        room = room;
        laid = laid_terminal x;
        pass = record { typed = refl; present = refl; checked = refl };
        keys = terminal_keys has.schema.0 t.terminals x none;
        short = (merchant_few x.merchant named, (terminal_few x.id numbered, tt));
        some = omega arith;
        few = omega arith;
      }) (given_row 2) 3 refl refl

  pub posting_succeeds : (n : ℕ) (p : Posting) → is_merchant p.merchant ≡ true
      → is_terminal p.terminal ≡ true → is_trace p.trace ≡ true → TakesPosting n p t
      → (stop : Option Error)
      → ¬ Does None mode (posting_row (n, p)) old text None (Insert 5 (Values (given_row 9) 10))
      (Err stop)
  posting_succeeds n p named numbered traced takes =
      row_succeeds has.schema.0 posting_row 5 (at.the_postings has.schema.0)
      (at.postings_placed has.schema.0) (rule.postings_listed has.schema.0)
      (rule.postings_narrow has.schema.0) mode old has.schema.1 has.sound text t.postings (n, p)
      has.postings
      (record {
        room = takes.room;
        laid = laid_posting has.schema.0 (n, p);
        pass = record { typed = refl; present = refl; checked = refl };
        keys = posting_keys has.schema.0 t.postings n p takes.fresh;
        short = (
          merchant_few p.merchant named,
          (
            tt,
            (
              tt,
              (
                tt,
                (
                  tt,
                  (
                    tt,
                    (
                      takes.card,
                      (
                        terminal_few p.terminal numbered,
                        (trace_few p.trace traced, tt),
                      ),
                    ),
                  ),
                ),
              ),
            ),
          ),
        );
        some = omega arith;
        few = omega arith;
      }) (given_row 9) 10 refl refl

  pub reconciliation_succeeds : (n : ℕ) (r : Reconciliation) → is_merchant r.merchant ≡ true
      → TakesReconciliation n r t → (stop : Option Error)
      → ¬ Does None mode (reconciliation_row (n, r)) old text None
      (Insert 6 (Values (given_row 4) 5)) (Err stop)
  reconciliation_succeeds n r named takes =
      row_succeeds has.schema.0 reconciliation_row 6 (at.the_reconciliations has.schema.0)
      (at.reconciliations_placed has.schema.0)
      (rule.reconciliations_listed has.schema.0) (rule.reconciliations_narrow has.schema.0) mode old
      has.schema.1 has.sound text
      t.reconciliations (n, r) has.reconciliations
      (record {
        room = takes.room;
        laid = laid_reconciliation has.schema.0 (n, r);
        pass = record { typed = refl; present = refl; checked = refl };
        keys = reconciliation_keys has.schema.0 t.reconciliations n r takes.fresh;
        short = (merchant_few r.merchant named, (tt, (tt, (tt, tt))));
        some = omega arith;
        few = omega arith;
      }) (given_row 4) 5 refl refl
