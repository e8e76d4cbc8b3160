-- What a walk over requests by rowid answers: those that pass, in the order of their list.
use Rattle.std.proofs.Common.{◌≡◌, Bool, ℕ, List, [], ◌∷◌, map, filter, length, refl, sym, ap, ◌∙◌}
use Rattle.std.specs.Ordering.{nat_cmp}
use Rattle.sqlite_value.specs.Order.{Row, value_cmp}
use Rattle.sqlite_value.proofs.OrderLemmas.{then-Equal}
use Rattle.sqlite_sql.specs.Query.{Output, output_cmp}
use Rattle.sqlite_sql.specs.Term.{Term}
use Rattle.sqlite_rules.specs.Lists.{Has}
use Rattle.sqlite_rules.proofs.ListLemmas.{all_has}
use Rattle.sqlite.specs.State.{State, Shown}
use Rattle.row_lemmas.specs.Values.{number}
use Rattle.row_lemmas.proofs.ListReads.{shows_keyed}
use Rattle.row_lemmas.proofs.QueryRows.{picked}
use Rattle.acq_core.specs.declared.request.Request.{Request}
use Rattle.acq_core.specs.Tables.{Tables}
use Rattle.acq_sql_rows.specs.Schema.{book_schema}
use Rattle.acq_sql_rows.specs.Rows.{request_row}
use Rattle.acq_sql_rows.specs.Tallies.{Running}
use Rattle.acq_sql_rows.specs.Relation.{HoldsRows, AreRecorded}
use Rattle.acq_sql_reads.specs.Recorded.{IsRowOf}
use Rattle.acq_sql_reads.specs.WalkQueries as query
use Rattle.acq_sql_reads.proofs.Ordering.{numbers_compare}
use Rattle.acq_sql_reads.proofs.RequestRows.{same_request}
use Rattle.acq_sql_reads.proofs.RisingNumbers.{sorted_already}
use Rattle.acq_sql_reads.proofs.RowidOrder.{placed_from, placed_row, rows_placed, passing_rise}
use Rattle.acq_sql_reads.proofs.TextLemmas.{Asks, request_names}
use Rattle.acq_sql_reads.proofs.Visiting.{AreOwn}

abbrev pub Placed : Type 0
Placed = ℕ × Request

-- ---- by rowid

abbrev out : Placed → Output
out p = (number p.0 ∷ [], request_row p.1)

rowids_compare : (a b : Placed)
    → output_cmp query.waiting_query (out a) (out b) ≡ nat_cmp a.0 b.0
rowids_compare a b = then-Equal (value_cmp (number a.0) (number b.0)) ∙ numbers_compare a.0 b.0

-- ---- those that pass

module _ (sql : List ℕ) (params : Row) (test : List Term)
    (ask : Asks sql (query.query_of_requests test) request_names) (passes : Placed → Bool)
    (tested : (p : Placed) → picked test params (placed_row request_row p) ≡ passes p) where
  pub found : (old : State) (t : Tables) (runs : List Running) → HoldsRows old.now t runs
      → (rows : List Row) → Shown sql params old old rows
      → rows ≡ map (λ p. request_row p.1) (filter passes (placed_from 1 t.requests))
  found old t runs has rows shown =
      let it = query.query_of_requests test in
      let placed = placed_from 1 t.requests in
      let passing = filter passes placed in
      let all = shows_keyed (placed_row request_row) (book_schema has.schema.0) 6 placed old old
      has.schema.1
      (has.requests ∙ rows_placed request_row 1 t.requests) sql
      params _ (ask.plain has.schema.0) (ask.unlisted has.schema.0) rows shown test it.project
      passes tested
      it.order it.limit out
      (λ p. refl) (ask.is has.schema.0) in
      all.3
      ∙ ap (map (λ (p : Placed). request_row p.1))
      (sorted_already (λ (p : Placed). p.0) query.waiting_query out rowids_compare passing all.0
      all.1 all.2 (passing_rise passes 1 t.requests))

-- ---- a row is one request's

pub requests_own : (t : Tables) → AreRecorded t.requests → (ys : List Request)
    → ((y : Request) → Has ys y → Has t.requests y)
    → AreOwn (λ row r. length row ≡ 18 → IsRowOf row r) request_row ys
requests_own t recorded ys among y x here read =
    let it = read refl in
    same_request x y it.0 it.2 (all_has _ t.requests y recorded (among y here)) (sym it.1)
