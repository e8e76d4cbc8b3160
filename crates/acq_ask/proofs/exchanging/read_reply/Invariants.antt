use Rattle.std.proofs.Common.{◌≡◌, ◌++◌, ℕ, List}
use Rattle.acq_ask.proofs.exchanging.read_reply.Given as goal

-- what came so far is held
abbrev pub invariant-loop-reply : goal.invariant-loop-reply
invariant-loop-reply g l =
    (more : List ℕ)
    × (g.A.Source.received l.answers ≡ g.A.Source.received l.fn.answers ++ more)
    × (l.held ≡ l.fn.held ++ more)

abbrev pub decreases-loop-reply : goal.decreases-loop-reply
decreases-loop-reply g l = g.A.Source.reads_left l.answers
