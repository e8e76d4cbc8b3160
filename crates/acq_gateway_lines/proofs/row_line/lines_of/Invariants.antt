-- the book is as it was, no call of its store failed, and the text has the lines so far
use Rattle.std.proofs.Common.{◌≡◌, true, flat_map, take}
use Rattle.acq_book.specs.Calls.{Looks}
use Rattle.acq_gateway_lines.specs.Slices.{told_line}
use Rattle.acq_gateway_lines.proofs.row_line.lines_of.Given as goal

abbrev pub invariant-loop-told : goal.invariant-loop-told
invariant-loop-told g l =
    Looks g.B.Book l.fn.book l.book true
    × (g.B.Book.failures l.book ≡ g.B.Book.failures l.fn.book)
    × (g.B.Book.is_honest l.book → g.B.Book.is_open l.fn.book
    → l.text.items ≡ flat_map (told_line (g.B.Book.tables l.fn.book) l.moment l.messages)
    (take l.told-index l.rows))
