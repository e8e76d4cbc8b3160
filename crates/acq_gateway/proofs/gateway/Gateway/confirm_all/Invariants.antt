-- the book is as it was, no call of its store failed, and words were said of it
use Rattle.std.proofs.Common.{◌≡◌, ℕ, true}
use Rattle.acq_book.specs.Calls.{Looks}
use Rattle.acq_gateway.specs.Telling.{Says}
use Rattle.acq_gateway.proofs.gateway.Gateway.confirm_all.Given as goal

abbrev pub invariant-loop : goal.invariant-loop
invariant-loop g l =
    Looks g.B.Book l.fn.host l.host true
    × (g.B.Book.failures l.host ≡ g.B.Book.failures l.fn.host)
    × (g.B.Book.is_honest l.host → g.B.Book.is_open l.fn.host
    → (moment : ℕ) → Says (g.B.Book.tables l.fn.host) moment l.fn.self l.self)
