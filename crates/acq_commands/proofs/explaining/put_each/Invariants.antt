-- the events so far were explained, over a book that is as it was
use Rattle.std.proofs.Common.{◌≡◌, ◌++◌, take, true}
use Rattle.acq_book.specs.Calls.{Looks}
use Rattle.acq_link.specs.MemorySink.{sent_of}
use Rattle.acq_commands.specs.Explain.{explanations}
use Rattle.acq_commands.proofs.explaining.put_each.Given as goal

abbrev pub invariant-loop-event : goal.invariant-loop-event
invariant-loop-event g l =
    Looks g.B.Book l.fn.book l.book true
    × (g.B.Book.is_honest l.book → g.B.Book.is_open l.fn.book
    → sent_of l.text
    ≡ sent_of l.fn.text
    ++ explanations (g.B.Book.tables l.fn.book) (take l.event-index l.events))
