-- what the connection is so far, and what every call keeps
use Rattle.std.proofs.Common.{◌≡◌, ◌+◌, ◌*◌, ◌++◌, List, ℕ, length}
use Rattle.std.specs.List.{All}
use Rattle.std.specs.Io.KnownBytes.{Consumes}
use Rattle.acq_core.specs.declared.query.Query.{Query}
use Rattle.acq_message.specs.declared.verdict.Verdict.{Verdict}
use Rattle.acq_message.specs.declared.verdict.Verdict.TheVariants.{NoAnswer}
use Rattle.acq_front.specs.Coming.{GivesAll}
use Rattle.acq_front.specs.Talk.{first_moment}
use Rattle.acq_serving.specs.Serving.{Connection}
use Rattle.acq_front.specs.Stops.{left_of}
use Rattle.acq_serving.proofs.Served.{Going}
use Rattle.acq_serving.proofs.serving.serve.Given as goal

abbrev pub invariant-loop-message : goal.invariant-loop-message
invariant-loop-message g l = (g.B.Book.is_honest l.host → g.B.Book.is_open l.fn.host →
    (c : Connection)
    × (g.S.Source.received l.source ≡ g.S.Source.received l.fn.source ++ c.input)
    × (g.K.Sink.sent l.sink ≡ g.K.Sink.sent l.fn.sink ++ c.output)
    × GivesAll first_moment (g.C.Clock.coming l.fn.clock) (g.C.Clock.coming l.clock) c.moments
    × All (g.C.Clock.may_give l.fn.clock) c.moments
    × GivesAll NoAnswer (g.I.Issuer.coming l.fn.issuer) (g.I.Issuer.coming l.issuer) c.verdicts
    × Going (g.I.Issuer.may_say l.fn.issuer) (g.B.Book.tables l.fn.host)
    (left_of g.B.Book l.host) c l.input
    × g.B.Book.is_open l.host)
    × (g.B.Book.is_honest l.host → g.B.Book.is_honest l.fn.host)
    × ((input : List ℕ) × (g.S.Source.received l.source ≡ g.S.Source.received l.fn.source ++ input)
    × Consumes (g.S.Source.remaining l.fn.source) (g.S.Source.remaining l.source) input)
    × (g.S.Source.failures l.source ≡ g.S.Source.failures l.fn.source)
    × (g.K.Sink.failures l.sink ≡ g.K.Sink.failures l.fn.sink)
    × ((q : Query) (v : Verdict) → g.I.Issuer.may_say l.issuer q v →
    g.I.Issuer.may_say l.fn.issuer q v)
    × ((m : ℕ) → g.C.Clock.may_give l.clock m → g.C.Clock.may_give l.fn.clock m)
    × (g.B.Book.failures l.host ≡ g.B.Book.failures l.fn.host)
    × ((taken : List ℕ)
    × (g.S.Source.received l.source ≡ g.S.Source.received l.fn.source ++ (taken ++ l.input)))

abbrev pub decreases-loop-message : goal.decreases-loop-message
decreases-loop-message g l = 4099 * g.S.Source.reads_left l.source + length l.input
