-- The totals of a merchant's terminals on a day.
use Rattle.std.specs.Prelude.{ℕ, List, map, filter, if◌then◌else◌}
use Rattle.std.specs.Str.{bytes_eq}
use Rattle.day_totals.specs.Totals.{DayTotals, totals_of}
use Rattle.acq_core.specs.declared.posting.Posting.{Posting}
use Rattle.acq_core.specs.declared.terminal.Terminal.{Terminal}
use Rattle.acq_core.specs.Tables.{Tables}
use Rattle.acq_book.specs.Lookups.{postings_above_at}
use Rattle.acq_statement.specs.declared.terminal_sums.TerminalSums.{TerminalSums}
use Rattle.acq_statement.specs.Sums.{capped_posting, capped_totals}

-- the merchant's terminals
abbrev pub terminals_of : List ℕ → List Terminal → List Terminal
terminals_of merchant terminals = filter (λ row. bytes_eq row.merchant merchant) terminals

-- the merchant's postings of a day, whose numbers begin at 1
abbrev pub day_postings : Tables → List ℕ → ℕ → List (ℕ × Posting)
day_postings t merchant day = postings_above_at t merchant day 0

-- the totals of those that a terminal posted
abbrev pub terminal_totals : List (ℕ × Posting) → List ℕ → DayTotals
terminal_totals rows terminal =
    totals_of (map (λ row. (row.1.leg, row.1.amount))
    (filter (λ row. bytes_eq row.1.terminal terminal) rows))

-- a terminal and its totals
abbrev pub sums_at_terminal : List (ℕ × Posting) → List ℕ → TerminalSums
sums_at_terminal rows terminal =
    record { id = terminal; sums = capped_totals (terminal_totals rows terminal) }

abbrev pub sums_at_terminals : List (ℕ × Posting) → List Terminal → List TerminalSums
sums_at_terminals rows terminals = map (λ terminal. sums_at_terminal rows terminal.id) terminals

-- one posting more, where the terminal posted it
abbrev pub with_posting : Posting → TerminalSums → TerminalSums
with_posting posting at =
    if bytes_eq posting.terminal at.id
    then record { id = at.id; sums = capped_posting at.sums posting.leg posting.amount }
    else at
