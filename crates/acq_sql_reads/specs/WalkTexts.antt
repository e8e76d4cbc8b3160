-- The texts of the walks.
use Rattle.std.specs.Prelude.{List, ℕ}
use Rattle.acq_sql_reads.specs.declared.walks.TheConstants.{POSTINGS, ABOVE, BEHIND}
use Rattle.acq_sql_reads.specs.declared.walks.TheConstants.{MERCHANTS, TERMINALS, RANGES}
use Rattle.acq_sql_reads.specs.declared.walks.TheConstants.{HOLDS, WAITING, REQUESTS_BEHIND}

abbrev pub postings_text : List ℕ
postings_text = POSTINGS.now

abbrev pub above_text : List ℕ
above_text = ABOVE.now

abbrev pub behind_text : List ℕ
behind_text = BEHIND.now

abbrev pub merchants_text : List ℕ
merchants_text = MERCHANTS.now

abbrev pub terminals_text : List ℕ
terminals_text = TERMINALS.now

abbrev pub ranges_text : List ℕ
ranges_text = RANGES.now

-- an approved authorization: its kind is 010, and its status 3
abbrev pub holds_text : List ℕ
holds_text = HOLDS.now

-- a pending request: its status is 1
abbrev pub waiting_text : List ℕ
waiting_text = WAITING.now

abbrev pub requests_behind_text : List ℕ
requests_behind_text = REQUESTS_BEHIND.now
