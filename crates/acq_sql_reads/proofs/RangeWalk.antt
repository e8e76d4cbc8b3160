-- What the walk over ranges answers.
use Rattle.std.proofs.Common.{◌≡◌, ℕ, true, List, [], map, length, refl, sym, ap, subst, ◌∙◌}
use Rattle.std.specs.List.Sorted.{IsPermutation}
use Rattle.std.specs.Ordering.{nat_cmp}
use Rattle.sqlite_value.specs.Order.{Row, value_cmp}
use Rattle.sqlite_value.proofs.OrderLemmas.{then-Equal}
use Rattle.sqlite_sql.specs.Query.{output_cmp}
use Rattle.sqlite.specs.State.{State, Shown}
use Rattle.row_lemmas.specs.Values.{number}
use Rattle.row_lemmas.proofs.ListReads.{shows_keyed}
use Rattle.card_no.specs.declared.range.Range.{Range}
use Rattle.acq_core.specs.Tables.{Tables}
use Rattle.acq_book.specs.Lookups.{ranges_at}
use Rattle.acq_sql_rows.specs.Schema.{book_schema}
use Rattle.acq_sql_rows.specs.Rows.{range_row}
use Rattle.acq_sql_rows.specs.Tallies.{Running}
use Rattle.acq_sql_rows.specs.Relation.{Holds, HoldsRows}
use Rattle.acq_sql_reads.specs.Looked.{range_cells}
use Rattle.acq_sql_reads.specs.WalkTexts as text
use Rattle.acq_sql_reads.specs.WalkQueries as query
use Rattle.acq_sql_reads.proofs.Ordering.{filter_all, numbers_compare}
use Rattle.acq_sql_reads.proofs.RangeReads.{range_out, same_range}
use Rattle.acq_sql_reads.proofs.RisingNumbers.{sorted_already}
use Rattle.acq_sql_reads.proofs.Visiting.{AreOwn}
use Rattle.acq_sql_reads.proofs.WalkTextLemmas as asks
use Rattle.acq_sql_reads.proofs.Walking.{ShowsList}

-- ---- by low

abbrev low_of : Range → ℕ
low_of r = r.low

lows_compare : (a b : Range)
    → output_cmp query.ranges_query (range_out a) (range_out b) ≡ nat_cmp a.low b.low
lows_compare a b =
    then-Equal (value_cmp (number a.low) (number b.low)) ∙ numbers_compare a.low b.low

-- the list rises by low already
ranges_found : (old : State) (t : Tables) (runs : List Running) → HoldsRows old.now t runs →
    (rows : List Row)
    → Shown text.ranges_text [] old old rows → rows ≡ map range_cells (ranges_at t)
ranges_found old t runs has rows shown =
    let ask = asks.ranges_asks in
    let it = query.ranges_query in
    let all = shows_keyed range_row (book_schema has.schema.0) 5 t.ranges old old has.schema.1
    has.ranges
    text.ranges_text
    [] _ (ask.plain has.schema.0) (ask.unlisted has.schema.0) rows shown it.filter it.project
    (λ x. true)
    (λ x. refl) it.order it.limit range_out
    (λ x. refl) (ask.is has.schema.0) in
    all.3
    ∙ ap (map range_cells) (sorted_already low_of query.ranges_query range_out lows_compare
    t.ranges all.0
    (subst (λ l. IsPermutation l all.0) (filter_all t.ranges) all.1) all.2 has.rising)

-- ---- a row is one range's

ranges_own : (ys : List Range) →
    AreOwn (λ row r. length row ≡ 4 → row ≡ range_cells r) range_cells ys
ranges_own ys y x here read = same_range x y (sym (read refl))

pub ranges_list : (old : State) (t : Tables) → Holds old.now t
    → ShowsList text.ranges_text [] old (λ row r. length row ≡ 4 → row ≡ range_cells r)
    query.ranges_query range_cells (ranges_at t)
ranges_list old t holds =
    record {
      names = _;
      ask = asks.ranges_asks;
      has = holds.rows.schema;
      found = ranges_found old t holds.runs holds.rows;
      own = ranges_own (ranges_at t);
    }
