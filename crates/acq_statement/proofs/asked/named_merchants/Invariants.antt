-- those so far were looked up, the book is as it was, and no call of its store failed
use Rattle.std.proofs.Common.{◌≡◌, true, take}
use Rattle.std.specs.List.{filter_map}
use Rattle.acq_book.specs.Calls.{Looks}
use Rattle.acq_book.specs.Lookups.{merchant_at}
use Rattle.acq_statement.proofs.asked.named_merchants.Given as goal

abbrev pub invariant-loop-name : goal.invariant-loop-name
invariant-loop-name g l =
    Looks g.B.Book l.fn.book l.book true
    × (g.B.Book.failures l.book ≡ g.B.Book.failures l.fn.book)
    × (g.B.Book.is_honest l.book → g.B.Book.is_open l.fn.book → l.merchants.items
    ≡ filter_map (merchant_at (g.B.Book.tables l.fn.book)) (take l.name-index l.names))
