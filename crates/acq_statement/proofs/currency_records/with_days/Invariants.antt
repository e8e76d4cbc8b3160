-- the days so far were added, the book is as it was, and no call of its store failed
use Rattle.std.proofs.Common.{◌≡◌, List, ◌++◌, true, take}
use Rattle.day_totals.specs.Totals.{DayTotals}
use Rattle.acq_book.specs.Calls.{Looks}
use Rattle.acq_statement.specs.Currencies.{totals_of_days}
use Rattle.acq_statement.specs.Sums.{sums_of}
use Rattle.acq_statement.proofs.currency_records.with_days.Given as goal

abbrev pub invariant-loop-day : goal.invariant-loop-day
invariant-loop-day g l =
    Looks g.B.Book l.fn.book l.book true
    × (g.B.Book.failures l.book ≡ g.B.Book.failures l.fn.book)
    × (g.B.Book.is_honest l.book → g.B.Book.is_open l.fn.book → (all : List DayTotals)
    → l.fn.before ≡ sums_of all → l.sums
    ≡ sums_of (all ++ totals_of_days (g.B.Book.tables l.fn.book) (take l.day-index l.days)
    l.merchant))
