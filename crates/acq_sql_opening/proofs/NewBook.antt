-- The tables of a new book, whose running totals are none.
use Rattle.std.proofs.Common.{◌≡◌, ◌<◌, ◌^◌, false, List, [], refl, sym, subst, arith}
use Rattle.sqlite_value.specs.Order.{Row}
use Rattle.sqlite.specs.Effect.{Database}
use Rattle.sqlite.specs.State.{State, Shows}
use Rattle.day_totals.specs.Totals.{totals_of}
use Rattle.acq_core.specs.Tables.{Opening, new_tables}
use Rattle.acq_sql_rows.specs.Relation.{Holds, HoldsRows}
use Rattle.acq_sql_writes.specs.Refused.{HasNumberLeft, HasNumbersLeft}
use Rattle.acq_sql_changes.proofs.Transactions.{at_commit}
use Rattle.acq_sql_checking.specs.Made.{IsNewBook}

-- nothing was counted or posted
pub new_holds : (db : Database) (opening : Opening) → HoldsRows db (new_tables opening) []
    → Holds db (new_tables opening)
unfolding totals_of
new_holds db opening rows =
    let low : 0 < 2 ^ 63 = omega arith in
    record {
      runs = [];
      rows = rows;
      tallied = λ merchant day. refl;
      short =
          λ merchant day. record {
            used = low;
            credits = (low, low);
            credit_reversals = (low, low);
            debits = (low, low);
            debit_reversals = (low, low);
          };
    }

-- no table has a row
new_left : (db : Database) (opening : Opening) → HoldsRows db (new_tables opening) []
    → HasNumbersLeft db
new_left db opening rows =
    record {
      merchants = left rows.merchants;
      terminals = left rows.terminals;
      ranges = left rows.ranges;
      requests = left rows.requests;
      postings = left rows.postings;
      reconciliations = left rows.reconciliations;
      running = left rows.running;
    }
  where
    left : {tree : List Row} → tree ≡ [] → HasNumberLeft tree
    left none = subst HasNumberLeft (sym none) (omega arith)

-- so it is once that is committed
pub new_shown : (last end : State) (opening : Opening) → HoldsRows last.now (new_tables opening) []
    → Shows last end last.now last.now false → IsNewBook opening end
new_shown last end opening rows shown =
    record {
      at = at_commit last end (new_tables opening) (new_holds last.now opening rows) shown;
      numbers = subst HasNumbersLeft (sym shown.now_is) (new_left last.now opening rows);
    }
