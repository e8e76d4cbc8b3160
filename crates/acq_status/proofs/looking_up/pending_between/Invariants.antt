-- the book is as it was, no call of its store failed, and what was counted is of the days so far
use Rattle.std.proofs.Common.{◌≡◌, true, map}
use Rattle.std.specs.List.{range_with_len}
use Rattle.acq_book.specs.Calls.{Looks}
use Rattle.acq_status.specs.Figures.{pending_on}
use Rattle.acq_status.proofs.looking_up.pending_between.Given as goal

abbrev pub invariant-loop-ahead : goal.invariant-loop-ahead
invariant-loop-ahead g l =
    Looks g.B.Book l.fn.book l.book true
    × (g.B.Book.failures l.book ≡ g.B.Book.failures l.fn.book)
    × (g.B.Book.is_honest l.book → g.B.Book.is_open l.fn.book
    → l.pending.items ≡ map (pending_on (g.B.Book.tables l.fn.book))
    (range_with_len l.fn.from l.ahead))
