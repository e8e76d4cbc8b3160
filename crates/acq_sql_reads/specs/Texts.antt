-- The texts of the look-ups.
use Rattle.std.specs.Prelude.{List, ℕ}
use Rattle.acq_sql_reads.specs.declared.book_row.TheConstants.{LIMIT_AND_DAY}
use Rattle.acq_sql_reads.specs.declared.enrolments.TheConstants.{MERCHANT, TERMINAL}
use Rattle.acq_sql_reads.specs.declared.running.TheConstants.{TOTALS_AND_USED}
use Rattle.acq_sql_reads.specs.declared.ranges.TheConstants.{NEAREST, OVERLAPPING}
use Rattle.acq_sql_reads.specs.declared.counts.TheConstants.{PENDING, TERMINAL_COUNT, RANGE_COUNT}
use Rattle.acq_sql_reads.specs.declared.counts.TheConstants.{GREATEST_REFERENCE, USED_ON}
use Rattle.acq_sql_reads.specs.declared.counts.TheConstants.{WAITING_COUNT}
use Rattle.acq_sql_reads.specs.declared.reconciliations.TheConstants.{LAST_RECONCILIATION}
use Rattle.acq_sql_reads.specs.declared.requests.TheConstants.{BY_KEY, BY_REFERENCE}

abbrev pub business_text : List ℕ
business_text = LIMIT_AND_DAY.now

abbrev pub merchant_text : List ℕ
merchant_text = MERCHANT.now

abbrev pub terminal_text : List ℕ
terminal_text = TERMINAL.now

abbrev pub running_text : List ℕ
running_text = TOTALS_AND_USED.now

abbrev pub nearest_text : List ℕ
nearest_text = NEAREST.now

abbrev pub overlapping_text : List ℕ
overlapping_text = OVERLAPPING.now

abbrev pub pending_text : List ℕ
pending_text = PENDING.now

abbrev pub waiting_count_text : List ℕ
waiting_count_text = WAITING_COUNT.now

abbrev pub used_on_text : List ℕ
used_on_text = USED_ON.now

abbrev pub terminal_count_text : List ℕ
terminal_count_text = TERMINAL_COUNT.now

abbrev pub range_count_text : List ℕ
range_count_text = RANGE_COUNT.now

abbrev pub reconciliation_text : List ℕ
reconciliation_text = LAST_RECONCILIATION.now

abbrev pub request_text : List ℕ
request_text = BY_KEY.now

abbrev pub reference_text : List ℕ
reference_text = BY_REFERENCE.now

abbrev pub greatest_text : List ℕ
greatest_text = GREATEST_REFERENCE.now
