-- What the look-up of a day's last reconciliation answers.
use Rattle.std.proofs.Common.{◌≡◌, ◌==◌, ◌&&◌, ◌+◌, ◌≤◌, ℕ, pos, inl, inr, Bool, true, false, List}
use Rattle.std.proofs.Common.{[], ◌∷◌}
use Rattle.std.proofs.Common.{length, slice_get, Option, None, Some, option_map, refl, sym, ap}
use Rattle.std.proofs.Common.{◌∙◌, arith}
use Rattle.std.specs.Option.{option_to_list}
use Rattle.std.specs.Ordering.{is_gt}
use Rattle.std.specs.Str.{bytes_eq}
use Rattle.std.proofs.lemmas.Bool.{and_parts}
use Rattle.sqlite_value.specs.declared.value.Value.TheVariants.{Int, Text}
use Rattle.sqlite_value.specs.Order.{Row, value_cmp}
use Rattle.sqlite_value.proofs.OrderLemmas.{then-Equal}
use Rattle.sqlite_trees.proofs.ListLemmas.{ascending_weaker}
use Rattle.sqlite_sql.specs.Query.{Output}
use Rattle.sqlite_rules.specs.Lists.{Has}
use Rattle.sqlite_rules.proofs.ListLemmas.{has_filtered}
use Rattle.sqlite.specs.State.{State, Shown}
use Rattle.row_lemmas.specs.Values.{number}
use Rattle.row_lemmas.proofs.ColumnTests.{text_test, number_test, number_at_most}
use Rattle.row_lemmas.proofs.ListReads.{shows_ordered}
use Rattle.row_lemmas.proofs.OrderedRows.{IsFirst, first_element}
use Rattle.row_lemmas.proofs.QueryRows.{picked}
use Rattle.acq_core.specs.declared.reconciliation.Reconciliation.{Reconciliation}
use Rattle.acq_core.specs.Pasts.{HasPast}
use Rattle.acq_core.specs.Tables.{Tables}
use Rattle.acq_book.specs.Order.{last_of}
use Rattle.acq_sql_rows.specs.Schema.{book_schema}
use Rattle.acq_sql_rows.specs.Rows.{reconciliation_row, bit_of}
use Rattle.acq_sql_rows.specs.Tallies.{Running}
use Rattle.acq_sql_rows.specs.Relation.{HoldsRows}
use Rattle.acq_sql_rows.proofs.SameKeys.{bytes_same, number_same}
use Rattle.acq_sql_reads.specs.Looked.{reconciliations_of, last_numbered_at, CountsUpFrom}
use Rattle.acq_sql_reads.specs.Looked.{balance_cells}
use Rattle.acq_sql_reads.specs.Texts as text
use Rattle.acq_sql_reads.specs.Queries as query
use Rattle.acq_sql_reads.proofs.TextLemmas as asks
use Rattle.acq_sql_reads.proofs.ReconciliationNumbers.{rest_counts, numbered_by_past}
use Rattle.acq_sql_reads.proofs.RequestRows.{bit_same}

abbrev Numbered : Type 0
Numbered = ℕ × Reconciliation

abbrev Later : Numbered → Numbered → Type 0
Later x y = y.0 ≤ x.0

both_ways : (a b : Bool) → (a && (b && true)) ≡ (b && a)
both_ways true true = refl
both_ways true false = refl
both_ways false true = refl
both_ways false false = refl

-- where numbers count up, the row of the greatest number is the last
greatest_last : (n : ℕ) (xs : List Numbered) (x : Numbered) → CountsUpFrom n xs → Has xs x
    → ((y : Numbered) → Has xs y → y.0 ≤ x.0) → last_of xs ≡ Some x
greatest_last n [] x up here most = absurd here
greatest_last n (y ∷ []) x up (inl is) most = ap Some (sym is)
greatest_last n (y ∷ []) x up (inr there) most = absurd there
greatest_last n (y ∷ z ∷ ys) x up (inl is) most =
    let first : y.0 ≡ n = cc in
    let second : z.0 ≡ n + 1 = cc in
    let same : x.0 ≡ y.0 = ap (λ (r : Numbered). r.0) is in
    absurd (omega (arith, most z (inr (inl refl)), first, second, same))
greatest_last n (y ∷ z ∷ ys) x up (inr there) most =
    greatest_last (n + 1) (z ∷ ys) x (rest_counts n y (z ∷ ys) up) there (λ w h. most w (inr h))

last_shown : (n : ℕ) (xs : List Numbered) (rows : List Row) → CountsUpFrom n xs
    → IsFirst Later xs balance_cells rows →
    rows ≡ option_to_list (option_map balance_cells (last_of xs))
last_shown n xs rows up (inl none) =
    none.0 ∙ ap (λ l. option_to_list (option_map balance_cells (last_of l))) (sym none.1)
last_shown n xs rows up (inr (x, here, is, later)) =
    let most : (y : Numbered) → Has xs y → y.0 ≤ x.0 = λ y h. elim (later y h) [
      | inl same ↦ rw same (omega arith)
      | inr before ↦ before
    ] in
    is ∙ ap (λ o. option_to_list (option_map balance_cells o))
    (sym (greatest_last n xs x up here most))

-- ---- the reconciliation that was read

same_row : (x y : Numbered) → x.1.merchant ≡ y.1.merchant → x.1.day ≡ y.1.day →
    balance_cells x ≡ balance_cells y
    → x ≡ y
same_row x y merchant day cells =
    let e0 : x.0 ≡ y.0 = cc in
    let bits : bit_of x.1.in_balance ≡ bit_of y.1.in_balance = cc in
    let e1 = bit_same x.1.in_balance y.1.in_balance bits in
    λ i. (e0 i, record { merchant = merchant i; day = day i; in_balance = e1 i })

last_has : (xs : List Numbered) (x : Numbered) → last_of xs ≡ Some x → Has xs x
last_has [] x is = absurd (cc)
last_has (y ∷ []) x is = inl (let e : x ≡ y = cc in e)
last_has (y ∷ z ∷ ys) x is = inr (last_has (z ∷ ys) x is)

module _ (m : List ℕ) (day : ℕ) where
  abbrev of_day : Numbered → Bool
  of_day row = bytes_eq row.1.merchant m && (row.1.day == day)

  abbrev sought : Row
  sought = number day ∷ Text m ∷ []

  abbrev out : Numbered → Output
  out x = (number x.0 ∷ [], balance_cells x)

  tested : (k : ℕ) (x : Numbered)
      → picked query.reconciliation_query.filter sought (Int (pos k) ∷ reconciliation_row x)
      ≡ of_day x
  tested k x =
      rw (number_test x.1.day day, text_test x.1.merchant m)
      (both_ways (x.1.day == day) (bytes_eq x.1.merchant m))

  pub reconciliation_found : (old new : State) (t : Tables) (runs : List Running) (rows : List Row)
      → HoldsRows old.now t runs → HasPast t → Shown text.reconciliation_text sought old new rows
      → rows ≡ option_to_list (option_map balance_cells (last_numbered_at t m day))
  reconciliation_found old new t runs rows has past shown =
      let ask = asks.reconciliation_asks in
      let it = query.reconciliation_query in
      let xs = reconciliations_of m day t.reconciliations in
      let all = shows_ordered reconciliation_row (book_schema has.schema.0) 10 t.reconciliations old
      new has.schema.1
      has.reconciliations text.reconciliation_text sought _ (ask.plain has.schema.0)
      (ask.unlisted has.schema.0) rows shown
      it.filter it.project
      of_day tested it.order it.limit out (λ id x. refl) (ask.is has.schema.0) in
      last_shown 1 xs rows (numbered_by_past t past m day)
      (first_element Later xs all.0 balance_cells rows all.1
      (ascending_weaker _ Later (λ x y h. number_at_most y.0 x.0
      (ap is_gt (sym (then-Equal (value_cmp (number y.0) (number x.0)))) ∙ h)) all.0 all.2)
      all.3)

  pub none_last : (xs : List Numbered) (rows : List Row)
      → rows ≡ option_to_list (option_map balance_cells (last_of (reconciliations_of m day xs)))
      → None ≡ slice_get rows 0 → None ≡ last_of (reconciliations_of m day xs)
  none_last xs rows found is = go (last_of (reconciliations_of m day xs)) found
    where
      go : (o : Option Numbered) → rows ≡ option_to_list (option_map balance_cells o) → None ≡ o
      go None are = refl
      go (Some y) are = absurd (let e = is ∙ ap (λ l. slice_get l 0) are in cc)

  pub last_read : (xs : List Numbered) (rows : List Row) (row : Row) (x : Numbered)
      → rows ≡ option_to_list (option_map balance_cells (last_of (reconciliations_of m day xs)))
      → Some row ≡ slice_get rows 0
      → (x.1.merchant ≡ m) × (x.1.day ≡ day) × (length row ≡ 2 → row ≡ balance_cells x)
      → Some x ≡ last_of (reconciliations_of m day xs)
  last_read xs rows row x found some read = go (last_of (reconciliations_of m day xs)) refl found
    where
      go : (o : Option Numbered) → last_of (reconciliations_of m day xs) ≡ o
          → rows ≡ option_to_list (option_map balance_cells o) → Some x ≡ o
      go None none are = absurd (let e = some ∙ ap (λ l. slice_get l 0) are in cc)
      go (Some y) last are =
          let first : row ≡ balance_cells y =
          let e : Some row ≡ Some (balance_cells y) = some ∙ ap (λ l. slice_get l 0) are in cc in
          let its = has_filtered of_day xs y (last_has (reconciliations_of m day xs) y last) in
          let parts = and_parts _ _ its.1 in
          ap Some (same_row x y (read.0 ∙ sym (bytes_same y.1.merchant m parts.0))
          (read.1 ∙ sym (number_same y.1.day day parts.1)) (sym (read.2 (ap length first)) ∙ first))
