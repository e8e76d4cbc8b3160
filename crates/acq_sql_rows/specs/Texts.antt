-- The texts of the writes, and of what begins and ends a transaction (`src/texts.rt`).
use Rattle.std.specs.Prelude.{List, ℕ}
use Rattle.acq_sql_rows.specs.declared.texts.TheConstants.{BEGIN, COMMIT, ROLLBACK}
use Rattle.acq_sql_rows.specs.declared.texts.TheConstants.{ADD_BOOK, SET_DAY, ADD_MERCHANT}
use Rattle.acq_sql_rows.specs.declared.texts.TheConstants.{ADD_TERMINAL}
use Rattle.acq_sql_rows.specs.declared.texts.TheConstants.{ADD_RANGE, DROP_RANGE, WIDEN_RANGES}
use Rattle.acq_sql_rows.specs.declared.texts.TheConstants.{TURN_RANGES, SET_VERSION, ADD_REQUEST}
use Rattle.acq_sql_rows.specs.declared.texts.TheConstants.{ANSWER}
use Rattle.acq_sql_rows.specs.declared.texts.TheConstants.{FOLLOW, ADD_POSTING, ADD_RECONCILIATION}
use Rattle.acq_sql_rows.specs.declared.texts.TheConstants.{RAISE}

abbrev pub begin_text : List ℕ
begin_text = BEGIN.now

abbrev pub commit_text : List ℕ
commit_text = COMMIT.now

abbrev pub rollback_text : List ℕ
rollback_text = ROLLBACK.now

abbrev pub add_book_text : List ℕ
add_book_text = ADD_BOOK.now

abbrev pub set_day_text : List ℕ
set_day_text = SET_DAY.now

abbrev pub add_merchant_text : List ℕ
add_merchant_text = ADD_MERCHANT.now

abbrev pub add_terminal_text : List ℕ
add_terminal_text = ADD_TERMINAL.now

abbrev pub add_range_text : List ℕ
add_range_text = ADD_RANGE.now

abbrev pub drop_range_text : List ℕ
drop_range_text = DROP_RANGE.now

abbrev pub widen_ranges_text : List ℕ
widen_ranges_text = WIDEN_RANGES.now

abbrev pub turn_ranges_text : List ℕ
turn_ranges_text = TURN_RANGES.now

abbrev pub set_version_text : List ℕ
set_version_text = SET_VERSION.now

abbrev pub add_request_text : List ℕ
add_request_text = ADD_REQUEST.now

abbrev pub answer_text : List ℕ
answer_text = ANSWER.now

abbrev pub follow_text : List ℕ
follow_text = FOLLOW.now

abbrev pub add_posting_text : List ℕ
add_posting_text = ADD_POSTING.now

abbrev pub add_reconciliation_text : List ℕ
add_reconciliation_text = ADD_RECONCILIATION.now

abbrev pub raise_text : List ℕ
raise_text = RAISE.now
