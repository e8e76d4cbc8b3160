-- the host took the events so far, and its book is one that some events led to
use Rattle.std.proofs.Common.{take}
use Rattle.acq_core.specs.Pasts.{HasPast}
use Rattle.acq_host.proofs.Runs.{HasTaken}
use Rattle.acq_host.proofs.host.Host.run.Given as goal

abbrev pub invariant-loop-at : goal.invariant-loop-at
invariant-loop-at g l = record {
  took : HasTaken g.B.Book l.fn.self l.self (take l.at l.events) l.said.items;
  past : g.B.Book.is_open l.self → HasPast (g.B.Book.tables l.self);
}
