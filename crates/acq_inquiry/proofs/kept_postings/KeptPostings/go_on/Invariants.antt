-- the book is as it was, no call of its store failed, and the days so far are kept
use Rattle.std.proofs.Common.{◌≡◌, true}
use Rattle.std.specs.List.{All}
use Rattle.acq_book.specs.Calls.{Looks}
use Rattle.acq_inquiry.specs.KeptPostings.{IsKept}
use Rattle.acq_inquiry.proofs.kept_postings.KeptPostings.go_on.Given as goal

abbrev pub invariant-loop-day : goal.invariant-loop-day
invariant-loop-day g l =
    Looks g.B.Book l.fn.book l.book true
    × (g.B.Book.failures l.book ≡ g.B.Book.failures l.fn.book)
    × (g.B.Book.is_honest l.book → g.B.Book.is_open l.fn.book
    → All (IsKept (g.B.Book.tables l.fn.book) l.self.merchant l.self.references.now)
    l.self.days.now
    → All (IsKept (g.B.Book.tables l.fn.book) l.self.merchant l.self.references.now)
    l.days.items)
