-- the book is as it was, no call of its store failed, and the text has the lines so far
use Rattle.std.proofs.Common.{◌≡◌, true, flat_map, take}
use Rattle.acq_book.specs.Calls.{Looks}
use Rattle.acq_inquiry.specs.KeptPostings.{text_with}
use Rattle.acq_inquiry.proofs.inquiry_text.text_of_rows.Given as goal

abbrev pub invariant-loop-row : goal.invariant-loop-row
invariant-loop-row g l =
    Looks g.B.Book l.fn.book l.book true
    × (g.B.Book.failures l.book ≡ g.B.Book.failures l.fn.book)
    × (g.B.Book.is_honest l.book → g.B.Book.is_open l.fn.book
    → l.text.items
    ≡ flat_map (text_with l.kept.days.now (g.B.Book.tables l.fn.book)) (take l.row-index l.rows))
