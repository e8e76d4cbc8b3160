-- the reports so far went out whole, the book is as it was, and no write and no call of the store
-- failed
use Rattle.std.proofs.Common.{◌≡◌, ◌++◌, true, take}
use Rattle.acq_book.specs.Calls.{Looks}
use Rattle.acq_commands.specs.DayReports.{AreGiven, report_texts}
use Rattle.acq_commands.proofs.day_reports.write_reports.Given as goal

abbrev pub invariant-loop-report : goal.invariant-loop-report
invariant-loop-report g l =
    Looks g.B.Book
    l.fn.book l.book true
    × (g.B.Book.is_honest l.book → g.B.Book.is_open l.fn.book
    → AreGiven (g.B.Book.tables l.fn.book) (take l.report-index l.reports)
    × (g.K.Sink.sent l.output
    ≡ g.K.Sink.sent l.fn.output ++ report_texts (g.B.Book.tables l.fn.book)
    (take l.report-index l.reports)))
    × (g.K.Sink.failures l.output ≡ g.K.Sink.failures l.fn.output)
    × (g.B.Book.failures l.book ≡ g.B.Book.failures l.fn.book)
