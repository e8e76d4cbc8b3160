use Rattle.std.proofs.Common.{◌≡◌, ◌++◌, ℕ, List, length, map}
use Rattle.acq_ask.specs.Codes.{code_of}
use Rattle.acq_ask.proofs.CountedUp.{Going}
use Rattle.acq_ask.proofs.repeating.send_all.Given as goal

-- so many messages went out, and each got its reply, which was counted
abbrev pub invariant-loop : goal.invariant-loop
invariant-loop g l =
    (sent : List ℕ) × (came : List ℕ) × (replies : List (List ℕ))
    × (g.L.Sink.sent l.lines ≡ g.L.Sink.sent l.fn.lines ++ sent)
    × (g.A.Source.received l.answers ≡ g.A.Source.received l.fn.answers ++ came)
    × (l.load.codes.items ≡ l.fn.load.codes.items ++ map code_of replies)
    × Going l.fn.message sent came replies l.message l.held
    × (length replies ≡ l.counter)
