-- What the writes of ranges do: low is the rowid, so the rows stand in the order of the list.
use Rattle.std.proofs.Common.{◌≡◌, ◌<◌, ◌==◌, ℕ, pos, Bool, true, false, not, cond, nat_lt, List}
use Rattle.std.proofs.Common.{[], ◌∷◌, filter}
use Rattle.std.proofs.Common.{Option, None, Ok, Less, Greater, refl, sym, ap, subst, ◌∙◌, arith}
use Rattle.std.specs.List.{AllByRecursion}
use Rattle.std.specs.Ordering.{match_ordering, ordering_reverse}
use Rattle.std.proofs.lemmas.Bool.{or_parts, and_parts, not-true}
use Rattle.std.proofs.lemmas.Bool.Decides.{nat_tests}
use Rattle.sqlite_value.specs.declared.value.Value.TheVariants.{Null, Text}
use Rattle.sqlite_value.specs.Order.{Row, value_cmp}
use Rattle.sqlite_value.proofs.OrderLemmas.{value_cmp_total}
use Rattle.sqlite_trees.specs.Tree.{rowid, put_row}
use Rattle.sqlite_trees.specs.View.{IsShaped, is_int}
use Rattle.sqlite_trees.specs.declared.store.Shape.TheVariants as shape
use Rattle.sqlite_trees.proofs.ListLemmas.{filter-map, ascending-map, ascending_weaker}
use Rattle.sqlite_trees.proofs.ListLemmas.{ascending-filter, all_of, all-map}
use Rattle.sqlite_trees.proofs.ListLemmas.{all_weaker}
use Rattle.sqlite_schema.specs.declared.command.Command.TheVariants.{Insert, Delete}
use Rattle.sqlite_schema.specs.declared.command.Source.TheVariants.{Values}
use Rattle.sqlite_rules.specs.Cast.{cast_row}
use Rattle.sqlite_rules.specs.declared.error.Rowids.TheVariants.{Chosen}
use Rattle.sqlite_rules.specs.Edit.{is_taken, are_fresh, with_rowid}
use Rattle.sqlite.specs.declared.run.Mode.{Mode}
use Rattle.sqlite.specs.Effect.{Database, IsDatabase}
use Rattle.sqlite.specs.Does.{Tally as Noted, Does}
use Rattle.row_lemmas.specs.Values.{number}
use Rattle.row_lemmas.specs.Queries.{alone}
use Rattle.row_lemmas.proofs.ColumnTests.{same_number, number_test, and_true, cast_int, cast_null}
use Rattle.row_lemmas.proofs.NumberedRows.{number_below}
use Rattle.row_lemmas.proofs.QueryRows.{picked}
use Rattle.row_lemmas.proofs.StatementEffects.{bare, inserted, deleted_by}
use Rattle.row_lemmas.proofs.RowChanges.{rows_deleted}
use Rattle.card_no.specs.declared.range.Range.{Range}
use Rattle.card_no.specs.Ranges.{with_range, has_ends}
use Rattle.acq_core.specs.Tables.{Tables}
use Rattle.acq_sql_rows.specs.declared.form.Form.{Form}
use Rattle.acq_sql_rows.specs.Schema.{book_schema}
use Rattle.acq_sql_rows.specs.Schema.{ranges_tree}
use Rattle.acq_sql_rows.specs.Tallies.{Running}
use Rattle.acq_sql_rows.specs.Rows.{range_row, range_rows}
use Rattle.acq_sql_rows.specs.Queries.{new_range, ends_are, drop_range_query}
use Rattle.acq_sql_rows.specs.Relation.{HoldsRows, AreRising}
use Rattle.acq_sql_writes.specs.Written.{with_added_range, with_dropped_range}
use Rattle.acq_sql_rows.proofs.TableTurns as at

lower : (a b : ℕ) → nat_lt a b ≡ true → a < b
lower a b h = grind (arith, nat_tests, h)

not_lower : (a b : ℕ) → nat_lt a b ≡ false → (a == b) ≡ false → b < a
not_lower a b h k = grind (arith, nat_tests, h, k)

-- no range begins there
abbrev pub IsFree : ℕ → List Range → Type 0
IsFree low = AllByRecursion (λ (s : Range). (s.low == low) ≡ false)

free_of : (xs : List Range) (r : Range) → is_taken (range_rows xs) (range_row r) ≡ false →
    IsFree r.low xs
free_of [] r h = tt
free_of (s ∷ xs) r h =
    let parts = or_parts _ _ h in
    (sym (same_number s.low r.low) ∙ parts.0, free_of xs r parts.1)

range_put : (xs : List Range) (r : Range) → IsFree r.low xs
    → put_row (range_row r) (range_rows xs) ≡ range_rows (with_range xs r)
range_put [] r free = refl
range_put (s ∷ xs) r free = go (nat_lt s.low r.low) refl (range_put xs r free.1)
  where
    go : (b : Bool) → nat_lt s.low r.low ≡ b →
        put_row (range_row r) (range_rows xs) ≡ range_rows (with_range xs r)
        → match_ordering (value_cmp (number s.low) (number r.low))
        (range_row s ∷ put_row (range_row r) (range_rows xs))
        (range_row r ∷ range_rows xs) (range_row r ∷ range_row s ∷ range_rows xs)
        ≡ range_rows (cond b (s ∷ with_range xs r) (r ∷ s ∷ xs))
    go true h later =
        rw (number_below s.low r.low (lower s.low r.low h)) (ap (λ l. range_row s ∷ l) later)
    go false h later =
        let above : value_cmp (number s.low) (number r.low) ≡ Greater =
        value_cmp_total.antisymm (number s.low) (number r.low)
        ∙ ap ordering_reverse (number_below r.low s.low (not_lower s.low r.low h free.0)) in
        rw above refl

still_above : (low : ℕ) (xs : List Range) (r : Range) →
    AllByRecursion (λ (s : Range). low < s.low) xs → low < r.low
    → AllByRecursion (λ (s : Range). low < s.low) (with_range xs r)
still_above low [] r up h = (h, tt)
still_above low (s ∷ xs) r up h =
    elim (nat_lt s.low r.low)
    as (λ b. AllByRecursion (λ (s : Range). low < s.low)
    (cond b (s ∷ with_range xs r) (r ∷ s ∷ xs)))
    [ true ↦ (up.0, still_above low xs r up.1 h) | false ↦ (h, up) ]

still_rising : (xs : List Range) (r : Range) → AreRising xs → IsFree r.low xs →
    AreRising (with_range xs r)
still_rising [] r up free = (tt, tt)
still_rising (s ∷ xs) r up free = go (nat_lt s.low r.low) refl (still_rising xs r up.1 free.1)
  where
    go : (b : Bool) → nat_lt s.low r.low ≡ b → AreRising (with_range xs r)
        → AreRising (cond b (s ∷ with_range xs r) (r ∷ s ∷ xs))
    go true h later = (still_above s.low xs r up.0 (lower s.low r.low h), later)
    go false h later =
        let low = not_lower s.low r.low h free.0 in (
          (
            low,
            all_weaker _ (λ (t : Range). r.low < t.low) (λ t above. omega (arith, low, above)) xs
                up.0,
          ),
          up,
        )

pub ranges_shaped : (xs : List Range) → AreRising xs → IsShaped shape.Table (range_rows xs)
ranges_shaped xs up = (
  ascending-map (λ a b. value_cmp (rowid a) (rowid b) ≡ Less) range_row xs
      (ascending_weaker (λ (a b : Range). a.low < b.low)
      (λ a b. value_cmp (number a.low) (number b.low) ≡ Less)
      (λ a b low. number_below a.low b.low low) xs up),
  all-map (λ r. is_int (rowid r) ≡ true) range_row xs
      (all_of (λ (r : Range). true ≡ true) (λ r. refl) xs),
)

pub laid_range : (r : Range) → cast_row at.the_ranges (range_row r) ≡ range_row r
laid_range r =
    rw (cast_int (pos r.low), cast_null, cast_int (pos r.high), cast_int (pos r.hold_days))

ends_test : (low high : ℕ) (x : Range)
    → picked ends_are (number low ∷ number high ∷ []) (range_row x) ≡ has_ends low high x
ends_test low high x = rw (number_test x.low low, number_test x.high high, and_true) refl

abbrev pub range_params : Range → Row
range_params r = number r.low ∷ number r.high ∷ Text r.issuer ∷ number r.hold_days ∷ []

module _ (limit : Option ℕ) (mode : Mode) (old new : Database) (text : List ℕ) (noted : Noted)
    (t : Tables)
    (runs : List Running) (has : HoldsRows old t runs) (sound : IsDatabase new) where
  pub range_added : (r : Range)
      → Does limit mode (range_params r) old text None (Insert 3 (Values new_range 5))
      (Ok (noted, new))
      → HoldsRows new (with_added_range r t) runs
  range_added r does =
      let w = inserted (book_schema has.schema.0) 3 at.the_ranges (at.ranges_placed has.schema.0)
      (at.lone has.schema.0 ranges_tree) limit mode old new has.schema.1 text
      (range_params r) noted new_range 5 does in
      let given =
      with_rowid Chosen (old.trees ranges_tree) (cast_row at.the_ranges (range_row r)) in
      -- the row has its rowid, so none is chosen
      let laid : given ≡ range_row r =
      ap (with_rowid Chosen (old.trees ranges_tree)) (laid_range r) in
      let fresh : are_fresh (old.trees ranges_tree) (given ∷ []) ≡ true = w.1.fresh in
      let taken : is_taken (old.trees ranges_tree) (range_row r) ≡ false =
      not-true _ (and_parts _ _
      (subst (λ (row : Row). are_fresh (old.trees ranges_tree) (row ∷ []) ≡ true) laid fresh)).0 in
      let free = free_of t.ranges r (subst (λ l. is_taken l (range_row r) ≡ false) has.ranges taken)
      in
      let added = w.1.rows ∙ ap (λ (row : Row). put_row row (old.trees ranges_tree)) laid
      ∙ ap (put_row (range_row r)) has.ranges
      ∙ range_put t.ranges r free in
      at.turned old new t runs has w.0 sound ranges_tree _
      (at.others_of has.schema.0 mode.keys old.trees new.trees _ w.1) added (with_added_range r t)
      runs refl
      (still_rising t.ranges r has.rising free) has.recorded has.apart

  pub range_dropped : (low high : ℕ)
      → Does limit mode (number low ∷ number high ∷ []) old text None
      (Delete 3 (alone drop_range_query)) (Ok (noted, new))
      → HoldsRows new (with_dropped_range low high t) runs
  range_dropped low high does =
      let params = number low ∷ number high ∷ [] in
      let w = deleted_by (book_schema has.schema.0) 3 at.the_ranges (at.ranges_placed has.schema.0)
      (at.lone has.schema.0 ranges_tree) limit mode old new has.schema.1 text
      params noted drop_range_query does in
      let p = picked ends_are params in
      let shaped = subst (IsShaped shape.Table) (sym has.ranges) (ranges_shaped t.ranges has.rising)
      in
      let gone = rows_deleted (book_schema has.schema.0) mode.keys old.trees new.trees
      (bare at.the_ranges) shaped ends_are [] params
      w.1.0 (w.1.1.answer Null) w.1.2 in
      let left = gone ∙ ap (filter (λ r. not (p r))) has.ranges
      ∙ filter-map (λ r. not (p r)) range_row t.ranges
      ∙ (λ i. range_rows (filter (λ x. not (ends_test low high x i)) t.ranges)) in
      at.turned old new t runs has w.0 sound ranges_tree _
      (at.others_of has.schema.0 mode.keys old.trees new.trees _ w.1.2) left
      (with_dropped_range low high t) runs
      refl
      (ascending-filter (λ (a b : Range). a.low < b.low) (λ x. not (has_ends low high x)) t.ranges
      has.rising) has.recorded has.apart
