-- INSERT of a range that begins where no other does never stops, nor does DELETE by a range's
-- ends.
use Rattle.std.proofs.Common.{◌≡◌, ◌==◌, ℕ, false, List, [], ◌∷◌, Option, None, Err, refl, sym, ap}
use Rattle.std.proofs.Common.{subst, arith, true}
use Rattle.std.specs.List.{list_any}
use Rattle.sqlite_value.specs.Order.{Row}
use Rattle.sqlite_trees.specs.View.{IsShaped}
use Rattle.sqlite_trees.specs.declared.store.Shape.TheVariants as shape
use Rattle.sqlite_schema.specs.declared.command.Command.TheVariants.{Insert, Delete}
use Rattle.sqlite_schema.specs.declared.command.Source.TheVariants.{Values}
use Rattle.sqlite_typing.specs.Types.{accepts_program}
use Rattle.sqlite_rules.specs.Edit.{with_rowid}
use Rattle.sqlite_rules.specs.declared.error.Rowids.TheVariants.{Chosen}
use Rattle.sqlite_rules.proofs.ListLemmas.{all_from}
use Rattle.sqlite.specs.declared.error.Error.{Error}
use Rattle.sqlite.specs.declared.run.Mode.{Mode}
use Rattle.sqlite.specs.Effect.{Database}
use Rattle.sqlite.specs.Does.{Does}
use Rattle.row_lemmas.specs.Queries.{alone}
use Rattle.row_lemmas.specs.Values.{number}
use Rattle.row_lemmas.proofs.GoodEdits.{HasNewKeys}
use Rattle.row_lemmas.proofs.InsertsSucceed.{IsNewRow, insert_succeeds}
use Rattle.row_lemmas.proofs.NewRows.{new_keyed_row}
use Rattle.row_lemmas.proofs.StatementEffects.{bare}
use Rattle.row_lemmas.proofs.UniqueKeys.{fits_of}
use Rattle.row_lemmas.proofs.UpdatesSucceed.{delete_succeeds}
use Rattle.card_no.specs.declared.range.Range.{Range}
use Rattle.card_no.specs.Prefix.{eight_digits}
use Rattle.acq_core.specs.Tables.{Tables}
use Rattle.acq_sql_rows.specs.declared.form.Form.{Form}
use Rattle.acq_sql_rows.specs.declared.form.Form.TheVariants.{Unique, Plain}
use Rattle.acq_sql_rows.specs.Schema.{book_schema, ranges_tree}
use Rattle.acq_sql_rows.specs.Tallies.{Running}
use Rattle.acq_sql_rows.specs.Rows.{range_row, range_rows}
use Rattle.acq_sql_rows.specs.Queries.{new_range, ends_are, drop_range_query}
use Rattle.acq_sql_rows.specs.Relation.{HoldsRows}
use Rattle.acq_sql_writes.specs.Refused.{TakesRange}
use Rattle.acq_sql_writes.proofs.MovedTables.{plain, ranges_listed, ranges_narrow}
use Rattle.acq_sql_writes.proofs.NewRowsTaken.{other, none_at}
use Rattle.acq_sql_writes.proofs.RangeMoves.{short_range, narrow_of, low_of}
use Rattle.acq_sql_writes.proofs.RangeWrites.{IsFree, range_params, ranges_shaped, laid_range}
use Rattle.acq_sql_rows.proofs.TableTurns as at

-- ---- a range that no other begins with

free_low : (xs : List Range) (low : ℕ) → list_any (λ s. s.low == low) xs ≡ false → IsFree low xs
free_low xs low none =
    all_from (λ (s : Range). (s.low == low) ≡ false) xs
    (λ s h. none_at (λ s. s.low == low) xs s none h)

-- no unique index is of this table
range_keys : (form : Form) (rows : List Row) (row : Row)
    → HasNewKeys (book_schema form).indexes (bare at.the_ranges) rows row
unfolding book_schema
range_keys Unique rows row =
    (other, (other, (other, (other, (other, (other, (other, tt)))))))
range_keys Plain rows row =
    (other, (other, (other, (other, (other, (other, (other, tt)))))))

module _ (mode : Mode) (old : Database) (text : List ℕ) (t : Tables) (runs : List Running)
    (has : HoldsRows old t runs) where
  shaped : IsShaped shape.Table (old.trees ranges_tree)
  shaped = subst (IsShaped shape.Table) (sym has.ranges) (ranges_shaped t.ranges has.rising)

  is_new : (r : Range) → TakesRange r t
      → IsNewRow (book_schema has.schema.0) (bare at.the_ranges) (old.trees ranges_tree)
      (range_row r)
  is_new r takes =
      let narrow = narrow_of eight_digits r takes.valid in
      subst (λ rows. IsNewRow (book_schema has.schema.0) (bare at.the_ranges) rows (range_row r))
      (sym has.ranges)
      (new_keyed_row range_row (λ x. x.low) (λ x. refl) (book_schema has.schema.0)
      (bare at.the_ranges) t.ranges r
      (ranges_narrow has.schema.0) (low_of r narrow) (free_low t.ranges r.low takes.begins)
      (record { typed = refl; present = refl; checked = refl })
      (range_keys has.schema.0 (range_rows t.ranges) (range_row r)) (short_range r narrow.issuer)
      (omega arith) (omega arith))

  pub range_succeeds : (r : Range) → TakesRange r t → (stop : Option Error)
      → ¬ Does None mode (range_params r) old text None (Insert 3 (Values new_range 5)) (Err stop)
  range_succeeds r takes =
      insert_succeeds (book_schema has.schema.0) (plain has.schema.0) 3 at.the_ranges
      (at.ranges_placed has.schema.0) (ranges_listed has.schema.0) mode old
      has.schema.1 (fits_of (book_schema has.schema.0) old.trees has.sound) shaped.0 text
      (range_params r)
      (range_row r) (is_new r takes) new_range 5 (range_row r) refl refl
      (ap (with_rowid Chosen (old.trees ranges_tree)) (laid_range r))

  typed_drop : (low high : ℕ) → accepts_program (book_schema has.schema.0) [] drop_range_query
      (number low ∷ number high ∷ []) ≡ true
  unfolding book_schema
  typed_drop low high = refl

  pub drop_succeeds : (low high : ℕ) (stop : Option Error)
      → ¬ Does None mode (number low ∷ number high ∷ []) old text None
      (Delete 3 (alone drop_range_query)) (Err stop)
  drop_succeeds low high =
      delete_succeeds (book_schema has.schema.0) (plain has.schema.0) 3 at.the_ranges
      (at.ranges_placed has.schema.0) (ranges_listed has.schema.0) mode old
      has.schema.1 (fits_of (book_schema has.schema.0) old.trees has.sound) shaped text
      (number low ∷ number high ∷ []) ends_are [] (typed_drop low high)
