-- the lines so far went out, whichever they were, the book is as it was, and no call of its store
-- failed
use Rattle.std.proofs.Common.{◌≡◌, ℕ, List, true, take}
use Rattle.std.specs.List.{flat_map}
use Rattle.acq_book.specs.Calls.{Looks}
use Rattle.acq_reports.specs.SettlementReport.{merchant_line}
use Rattle.acq_reports.specs.Writing.{WentOut}
use Rattle.acq_reports.proofs.settlement_report.write_merchants.Given as goal

abbrev pub invariant-loop-name : goal.invariant-loop-name
invariant-loop-name g l =
    Looks g.B.Book
    l.fn.book l.book true
    × (g.B.Book.is_honest l.book → g.B.Book.is_open l.fn.book
    → WentOut g.K.Sink.sent g.K.Sink.failures
    (flat_map (merchant_line (g.B.Book.tables l.fn.book) l.day) (take l.name-index l.names))
    l.fn.report l.report)
    × (g.B.Book.failures l.book ≡ g.B.Book.failures l.fn.book)
    × ((text : List ℕ) × WentOut g.K.Sink.sent g.K.Sink.failures text l.fn.report l.report)
