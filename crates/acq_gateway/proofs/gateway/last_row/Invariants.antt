-- the book is as it was, and no call of its store failed
use Rattle.std.proofs.Common.{◌≡◌, true}
use Rattle.acq_book.specs.Calls.{Looks}
use Rattle.acq_gateway.proofs.gateway.last_row.Given as goal

abbrev pub invariant-loop : goal.invariant-loop
invariant-loop g l =
    Looks g.B.Book l.fn.host l.host true
    × (g.B.Book.failures l.host ≡ g.B.Book.failures l.fn.host)
