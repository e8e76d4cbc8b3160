-- What the walk over the requests that wait answers.
use Rattle.std.proofs.Common.{◌≡◌, Bool, List, [], map, length, refl, ◌∙◌}
use Rattle.sqlite_value.specs.Order.{Row}
use Rattle.sqlite_rules.specs.Lists.{Has}
use Rattle.sqlite_rules.proofs.ListLemmas.{has_filtered}
use Rattle.sqlite.specs.State.{State, Shown}
use Rattle.row_lemmas.proofs.ColumnTests.{number_test, and_true}
use Rattle.row_lemmas.proofs.QueryRows.{picked}
use Rattle.acq_core.specs.declared.request.Request.{Request}
use Rattle.acq_core.specs.Statuses.{status_number}
use Rattle.acq_core.specs.Tables.{Tables, is_pending}
use Rattle.acq_book.specs.Lookups.{waiting_at}
use Rattle.acq_sql_rows.specs.Rows.{request_row}
use Rattle.acq_sql_rows.specs.Tallies.{Running}
use Rattle.acq_sql_rows.specs.Relation.{Holds, HoldsRows}
use Rattle.acq_sql_reads.specs.Recorded.{IsRowOf}
use Rattle.acq_sql_reads.specs.WalkTexts as text
use Rattle.acq_sql_reads.specs.WalkQueries as query
use Rattle.acq_sql_reads.proofs.WalkTextLemmas as asks
use Rattle.acq_sql_reads.proofs.CountReads.{pending_is}
use Rattle.acq_sql_reads.proofs.RowidOrder.{placed_row, passing_placed}
use Rattle.acq_sql_reads.proofs.RowidWalk.{Placed, found, requests_own}
use Rattle.acq_sql_reads.proofs.Walking.{ShowsList}

abbrev waits : Request → Bool
waits row = is_pending row.status

tested : (p : Placed)
    → picked query.waiting_query.filter [] (placed_row request_row p) ≡ waits p.1
tested p =
    rw (number_test (status_number p.1.status) 1, and_true, pending_is p.1.status) refl

waiting_found : (old : State) (t : Tables) (runs : List Running) → HoldsRows old.now t runs →
    (rows : List Row)
    → Shown text.waiting_text [] old old rows → rows ≡ map request_row (waiting_at t)
waiting_found old t runs has rows shown =
    found text.waiting_text [] query.waiting_query.filter asks.waiting_asks
    (λ p. waits p.1) tested old t runs has rows shown
    ∙ passing_placed request_row waits 1 t.requests

pub waiting_among : (t : Tables) (y : Request) → Has (waiting_at t) y → Has t.requests y
waiting_among t y here = (has_filtered waits t.requests y here).0

pub waiting_list : (old : State) (t : Tables) → Holds old.now t
    → ShowsList text.waiting_text [] old (λ row r. length row ≡ 18 → IsRowOf row r)
    query.waiting_query request_row (waiting_at t)
waiting_list old t holds =
    record {
      names = _;
      ask = asks.waiting_asks;
      has = holds.rows.schema;
      found = waiting_found old t holds.runs holds.rows;
      own = requests_own t holds.rows.recorded (waiting_at t) (waiting_among t);
    }
