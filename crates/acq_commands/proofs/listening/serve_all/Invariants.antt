-- the connections so far were served, and what every call keeps
use Rattle.std.proofs.Common.{◌≡◌, List, ℕ, length}
use Rattle.acq_core.specs.declared.query.Query.{Query}
use Rattle.acq_message.specs.declared.verdict.Verdict.{Verdict}
use Rattle.acq_commands.specs.Listening.{Served, ServesEach, traffic, traffic_after}
use Rattle.acq_commands.proofs.listening.serve_all.Given as goal

abbrev pub invariant-loop : goal.invariant-loop
invariant-loop g l = (g.B.Book.is_honest l.host → g.B.Book.is_open l.fn.host → (all : List Served)
    × (length all ≡ l.counter)
    × ServesEach (g.C.Clock.may_give l.fn.clock) (g.I.Issuer.may_say l.fn.issuer)
    (g.B.Book.tables l.fn.host)
    (g.B.Book.tables l.host) all
    × (traffic g.N.Connections.received g.N.Connections.sent g.N.Connections.read_failures
    g.N.Connections.write_failures l.connections
    ≡ traffic_after (traffic g.N.Connections.received g.N.Connections.sent
    g.N.Connections.read_failures g.N.Connections.write_failures l.fn.connections) all)
    × g.B.Book.is_open l.host)
    × (g.B.Book.is_honest l.host → g.B.Book.is_honest l.fn.host)
    × ((q : Query) (v : Verdict) → g.I.Issuer.may_say l.issuer q v →
    g.I.Issuer.may_say l.fn.issuer q v)
    × ((m : ℕ) → g.C.Clock.may_give l.clock m → g.C.Clock.may_give l.fn.clock m)
    × (g.B.Book.failures l.host ≡ g.B.Book.failures l.fn.host)
