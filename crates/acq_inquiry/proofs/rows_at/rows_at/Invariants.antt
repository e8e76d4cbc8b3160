-- the book is as it was, no call of its store failed, and the rows of the places so far are there
use Rattle.std.proofs.Common.{◌≡◌, true, flat_map, take}
use Rattle.acq_book.specs.Calls.{Looks}
use Rattle.acq_inquiry.specs.Searching.{row_at}
use Rattle.acq_inquiry.proofs.rows_at.rows_at.Given as goal

abbrev pub invariant-loop-place : goal.invariant-loop-place
invariant-loop-place g l =
    Looks g.B.Book l.fn.book l.book true
    × (g.B.Book.failures l.book ≡ g.B.Book.failures l.fn.book)
    × (g.B.Book.is_honest l.book → g.B.Book.is_open l.fn.book
    → l.copying.rows.items
    ≡ flat_map (row_at (g.B.Book.tables l.fn.book)) (take l.place-index l.places))
