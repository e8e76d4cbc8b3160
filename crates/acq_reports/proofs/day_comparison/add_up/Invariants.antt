-- the book is as it was, and no call of its store failed
use Rattle.std.proofs.Common.{◌≡◌, true}
use Rattle.acq_book.specs.Calls.{Looks}
use Rattle.acq_reports.proofs.day_comparison.add_up.Given as goal

abbrev pub invariant-loop-summed : goal.invariant-loop-summed
invariant-loop-summed g l =
    Looks g.B.Book l.fn.book l.book true
    × (g.B.Book.failures l.book ≡ g.B.Book.failures l.fn.book)
