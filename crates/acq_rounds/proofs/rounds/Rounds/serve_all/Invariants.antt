use Rattle.std.proofs.Common.{◌≡◌, ◌+◌, ℕ}
use Rattle.acq_core.specs.declared.query.Query.{Query}
use Rattle.acq_message.specs.declared.verdict.Verdict.{Verdict}
use Rattle.acq_rounds.specs.Places.{AreQuiet, asleep_in, count_of, seen_in}
use Rattle.acq_rounds.specs.Runs.{whole}
use Rattle.acq_rounds.proofs.Running.{RanIn}
use Rattle.acq_rounds.proofs.rounds.Rounds.serve_all.Given as goal

-- so many rounds were served
abbrev pub invariant-loop : goal.invariant-loop
invariant-loop g l =
    let book = g.B.Book in
    let here = seen_in g.L.Line g.T.Talk in
    let count = count_of g.L.Line g.T.Talk in
    let ended = g.G.Gate.ended in
    record {
      quiet : AreQuiet (asleep_in g.L.Line g.T.Talk l.self);
      was_honest : book.is_honest l.host → book.is_honest l.fn.host;
      stays_open : book.is_honest l.host → book.is_open l.fn.host → book.is_open l.host;
      ran : book.is_honest l.host → book.is_open l.fn.host →
          RanIn (g.C.Clock.may_give l.fn.clock) (g.I.Issuer.may_say l.fn.issuer) g.G.Gate.follow
          l.counter
          (whole (ended l.fn.gate) (here l.fn.self) (count l.fn.self) (book.tables l.fn.host)
          (g.G.Gate.others l.fn.gate))
          (whole (ended l.gate) (here l.self) (count l.self) (book.tables l.host)
          (g.G.Gate.others l.gate));
      given : count l.self + g.G.Gate.given l.fn.gate ≡ count l.fn.self + g.G.Gate.given l.gate;
      said_later : (q : Query) (v : Verdict) → g.I.Issuer.may_say l.issuer q v
          → g.I.Issuer.may_say l.fn.issuer q v;
      given_later : (m : ℕ) → g.C.Clock.may_give l.clock m → g.C.Clock.may_give l.fn.clock m;
      store : book.failures l.host ≡ book.failures l.fn.host;
    }
