-- the host took events, no call of its store failed, and the clock is no other
use Rattle.std.proofs.Common.{◌≡◌, ℕ}
use Rattle.acq_controls.specs.Aside.{aside_of}
use Rattle.acq_controls.proofs.Staying.{GoesOn}
use Rattle.acq_rounds.specs.Reaching.{Reaches}
use Rattle.acq_front.specs.Stops.{left_of}
use Rattle.acq_tcp.proofs.tcp_server.TcpServer.take_own_lines.Given as goal

abbrev pub invariant-loop : goal.invariant-loop
invariant-loop g l =
    (g.B.Book.is_honest l.host → g.B.Book.is_open l.fn.host →
    Reaches (g.B.Book.tables l.fn.host) (left_of g.B.Book l.host)
    (GoesOn (g.B.Book.tables l.fn.host) (aside_of l.fn.controls) (aside_of l.controls))
    × g.B.Book.is_open l.host)
    × (g.B.Book.is_honest l.host → g.B.Book.is_honest l.fn.host)
    × (g.B.Book.failures l.host ≡ g.B.Book.failures l.fn.host)
    × ((m : ℕ) → g.C.Clock.may_give l.clock m → g.C.Clock.may_give l.fn.clock m)
