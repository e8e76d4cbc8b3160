use Rattle.std.proofs.Common.{◌≡◌, ◌++◌, ℕ, List}
use Rattle.acq_control.proofs.host_answer.HostAnswer.read.Given as goal

-- what came so far is held
abbrev pub invariant-loop-answer : goal.invariant-loop-answer
invariant-loop-answer g l =
    ((more : List ℕ)
    × (g.A.Source.received l.source ≡ g.A.Source.received l.fn.source ++ more)
    × (l.held.items ≡ l.fn.held.items ++ more))
    × (g.A.Source.failures l.source ≡ g.A.Source.failures l.fn.source)

abbrev pub decreases-loop-answer : goal.decreases-loop-answer
decreases-loop-answer g l = g.A.Source.reads_left l.source
