-- The upsert of the running totals never stops, where columns can keep what the day comes to.
use Rattle.std.proofs.Common.{◌≡◌, ◌==◌, ◌+◌, ◌≤◌, ◌^◌, ℕ, pos, true, false, List}
use Rattle.std.proofs.Common.{[], ◌∷◌, drop}
use Rattle.std.proofs.Common.{length, Option, None, Err, refl, sym, ap, subst, ◌∙◌, arith}
use Rattle.std.specs.List.{AllByRecursion}
use Rattle.std.specs.Str.{bytes_eq}
use Rattle.std.proofs.lemmas.Bool.{and_parts}
use Rattle.sqlite_value.specs.declared.value.Value.TheVariants.{Null, Int, Text}
use Rattle.sqlite_value.specs.Keys.{first_key}
use Rattle.sqlite_value.specs.Order.{Row}
use Rattle.sqlite_trees.proofs.ListLemmas.{ascending_weaker}
use Rattle.sqlite_schema.specs.declared.command.Command.TheVariants.{InsertOr}
use Rattle.sqlite_schema.specs.declared.command.Conflict.TheVariants.{Abort}
use Rattle.sqlite_schema.specs.declared.command.Source.TheVariants.{Values}
use Rattle.sqlite_typing.specs.Types.{accepts_program}
use Rattle.sqlite_rules.specs.Lists.{Has}
use Rattle.sqlite_rules.specs.InPlace.{KeepsKeys}
use Rattle.sqlite_rules.specs.Cast.{cast_row}
use Rattle.sqlite.specs.declared.error.Error.{Error}
use Rattle.sqlite_catalog.specs.Listing.{automatic}
use Rattle.sqlite_schema.specs.declared.schema.Index.{Index}
use Rattle.sqlite.specs.declared.run.Mode.{Mode}
use Rattle.sqlite.specs.Effect.{Database}
use Rattle.sqlite.specs.Does.{Does}
use Rattle.row_lemmas.specs.Values.{number}
use Rattle.row_lemmas.proofs.ColumnTests.{text_test, number_test, and_true}
use Rattle.row_lemmas.proofs.ListUpsertsSucceed.{IsGoodUpsert, given, list_upsert_succeeds}
use Rattle.row_lemmas.proofs.NewRows.{HasNewKey}
use Rattle.row_lemmas.proofs.ShortRows.{AreShort}
use Rattle.row_lemmas.proofs.StatementEffects.{bare}
use Rattle.row_lemmas.proofs.UniqueKeys.{fits_of}
use Rattle.row_lemmas.proofs.Upserts.{IsLone}
use Rattle.acq_message.specs.Names.{is_merchant}
use Rattle.acq_core.specs.Tables.{Tables}
use Rattle.acq_sql_rows.specs.declared.form.Form.{Form}
use Rattle.acq_sql_rows.specs.declared.form.Form.TheVariants.{Unique, Plain}
use Rattle.acq_sql_rows.specs.Schema.{book_schema}
use Rattle.acq_sql_rows.specs.Tallies.{Tally, Running, is_for}
use Rattle.acq_sql_rows.specs.Rows.{running_row}
use Rattle.acq_sql_rows.specs.Queries.{new_row, raise_query, raises}
use Rattle.acq_sql_rows.specs.Relation.{HoldsRows}
use Rattle.acq_sql_writes.specs.Refused.{TakesMore}
use Rattle.acq_sql_writes.proofs.MovedTables.{plain}
use Rattle.acq_sql_writes.proofs.NewRowsTaken.{other, all_two, merchant_few}
use Rattle.acq_sql_writes.proofs.RaiseWrites.{it, raise, laid_running, laid_at, shows}
use Rattle.acq_sql_writes.proofs.RaiseWrites.{conflict_test, never_two, fits_there}
use Rattle.acq_sql_rows.proofs.SameKeys.{bytes_same}
use Rattle.acq_sql_writes.proofs.TableRules as rule
use Rattle.acq_sql_rows.proofs.TableTurns as at

running_few : (r : Running) → length r.merchant ≤ 10 ^ 6 → AreShort (running_row r)
running_few r few =
    (few, (tt, (tt, (tt, (tt, (tt, (tt, (tt, (tt, (tt, (tt, tt)))))))))))

abbrev running_key : Index
running_key = automatic at.the_running 0 (1 ∷ 2 ∷ []) 13

running_new : (xs : List Running) (r : Running)
    → ((y : Running) → Has xs y → is_for r.merchant r.day y ≡ false)
    → HasNewKey running_row xs r (bare at.the_running) running_key
unfolding first_key
running_new xs r none g id y h =
    rw (text_test y.merchant r.merchant, number_test y.day r.day)
    (all_two (bytes_eq y.merchant r.merchant) (y.day == r.day) ∙ none y h)

running_keys : (form : Form) (xs : List Running) (r : Running)
    → ((y : Running) → Has xs y → is_for r.merchant r.day y ≡ false)
    → AllByRecursion (HasNewKey running_row xs r (bare at.the_running)) (book_schema form).indexes
unfolding book_schema
running_keys Unique xs r none =
    (other, (other, (other, (other, (other, (running_new xs r none, (other, tt)))))))
running_keys Plain xs r none =
    (other, (other, (other, (other, (other, (running_new xs r none, (other, tt)))))))

-- a change that leaves the merchant and the day keeps the unique keys
keeps_keys : (form : Form) (id : ℕ) (x y : Running) → x.merchant ≡ y.merchant → x.day ≡ y.day
    → KeepsKeys (book_schema form) (bare at.the_running) (Int (pos id) ∷ running_row x)
    (Int (pos id) ∷ running_row y)
unfolding book_schema
keeps_keys Unique id x y merchant day =
    record {
      unique = (
        other,
        (
          other,
          (other, (other, (other, (λ g. (ap Text merchant, (ap number day, tt)), (other, tt))))),
        ),
      );
      refers = tt;
    }
keeps_keys Plain id x y merchant day =
    record {
      unique = (
        other,
        (
          other,
          (other, (other, (other, (λ g. (ap Text merchant, (ap number day, tt)), (other, tt))))),
        ),
      );
      refers = tt;
    }

module _ (merchant : List ℕ) (day : ℕ) (more : Tally) (mode : Mode) (old : Database)
    (text : List ℕ) (t : Tables) (runs : List Running) (has : HoldsRows old t runs)
    (named : is_merchant merchant ≡ true) (takes : TakesMore merchant day more runs) where
  abbrev row : Running
  row = it merchant day more

  lone : IsLone (is_for merchant day) runs
  lone =
      ascending_weaker (λ (a b : Running). is_for b.merchant b.day a ≡ false)
      (λ x y. is_for merchant day x ≡ true → is_for merchant day y ≡ true → ⊥)
      (never_two merchant day more) runs has.apart

  -- the parameters, the rowid of the row that is there, and the row that is not inserted
  abbrev params : ℕ → Row
  params k =
      given running_row (book_schema has.schema.0) (plain has.schema.0) 7 at.the_running
      (at.running_placed has.schema.0) (rule.running_listed has.schema.0)
      (rule.running_narrow has.schema.0) mode old has.schema.1
      (fits_of (book_schema has.schema.0) old.trees has.sound) text
      (running_row row) runs has.running row (1 ∷ 2 ∷ []) raise_query.filter
      (drop 1 raise_query.project) (is_for merchant day) (raise merchant day more) lone (number k)

  typed_raise : (k : ℕ) → accepts_program (book_schema has.schema.0) [] raise_query (params k)
      ≡ true
  unfolding book_schema
  typed_raise k = refl

  good : IsGoodUpsert running_row (book_schema has.schema.0) (plain has.schema.0) 7 at.the_running
      (at.running_placed has.schema.0)
      (rule.running_listed has.schema.0) (rule.running_narrow has.schema.0) mode old has.schema.1
      (fits_of (book_schema has.schema.0) old.trees has.sound) text (running_row row) runs
      has.running row
      (1 ∷ 2 ∷ []) raise_query.filter (drop 1 raise_query.project) (is_for merchant day)
      (raise merchant day more) lone
  good =
      record {
        hit = λ id y. conflict_test has.schema.0 (pos (1 + length runs)) (pos id) row y;
        room = takes.room;
        new_laid = laid_at (pos (1 + length runs)) row;
        new_passes = record { typed = refl; present = refl; checked = refl };
        new_keys = running_keys has.schema.0 runs row;
        new_short = running_few row (merchant_few merchant named);
        wide = λ y. (omega arith, omega arith);
        typed = typed_raise;
        tested = λ k id y. rw (number_test id k, and_true) refl;
        laid = λ k id y h is. ap (cast_row (bare at.the_running))
            (shows merchant day more (drop 11 (params k)) id y
            (fits_there merchant day more runs has.apart takes.fits y h is))
            ∙ laid_at (pos id) (raise merchant day more y);
        passes = λ id y h is. record { typed = refl; present = refl; checked = refl };
        keys = λ id y h is. keeps_keys has.schema.0 id y (raise merchant day more y) refl refl;
        short = λ y h is. running_few (raise merchant day more y)
            (subst (λ text. length text ≤ 10 ^ 6)
            (sym (bytes_same y.merchant merchant (and_parts _ _ is).0))
            (merchant_few merchant named));
      }

  pub raise_succeeds : (stop : Option Error)
      → ¬ Does None mode (running_row row) old text None
      (InsertOr 7 Abort (Values (new_row 11) 12) (raises ∷ [])) (Err stop)
  raise_succeeds =
      list_upsert_succeeds running_row (book_schema has.schema.0) (plain has.schema.0) 7
      at.the_running (at.running_placed has.schema.0)
      (rule.running_listed has.schema.0) (rule.running_narrow has.schema.0) mode old has.schema.1
      (fits_of (book_schema has.schema.0) old.trees has.sound) text (running_row row) runs
      has.running row
      (1 ∷ 2 ∷ []) raise_query.filter (drop 1 raise_query.project) (is_for merchant day)
      (raise merchant day more) lone good (new_row 11) 12 (Null ∷ running_row row) refl refl
      (laid_running row)
