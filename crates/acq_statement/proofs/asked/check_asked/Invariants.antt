-- those so far are enrolled, the book is as it was, and no call of its store failed
use Rattle.std.proofs.Common.{◌≡◌, true, false, take}
use Rattle.std.specs.Prelude.{is_none}
use Rattle.std.specs.List.{list_any}
use Rattle.acq_book.specs.Calls.{Looks}
use Rattle.acq_book.specs.Lookups.{merchant_at}
use Rattle.acq_statement.proofs.asked.check_asked.Given as goal

abbrev pub invariant-loop-id : goal.invariant-loop-id
invariant-loop-id g l =
    Looks g.B.Book l.fn.book l.book true
    × (g.B.Book.failures l.book ≡ g.B.Book.failures l.fn.book)
    × (g.B.Book.is_honest l.book → g.B.Book.is_open l.fn.book
    → list_any (λ id. is_none (merchant_at (g.B.Book.tables l.fn.book) id))
    (take l.id-index l.asked) ≡ false)
