-- the merchants so far were added, the book is as it was, and no call of its store failed
use Rattle.std.proofs.Common.{◌≡◌, true, take}
use Rattle.acq_book.specs.Calls.{Looks}
use Rattle.acq_statement.specs.Currencies.{merchants_in, sums_of_days}
use Rattle.acq_statement.proofs.currency_records.currency_sums.Given as goal

abbrev pub invariant-loop-merchant : goal.invariant-loop-merchant
invariant-loop-merchant g l =
    Looks g.B.Book l.fn.book l.book true
    × (g.B.Book.failures l.book ≡ g.B.Book.failures l.fn.book)
    × (g.B.Book.is_honest l.book → g.B.Book.is_open l.fn.book → l.sums
    ≡ sums_of_days (g.B.Book.tables l.fn.book) l.days
    (merchants_in l.currency (take l.merchant-index l.merchants)))
