use Rattle.std.proofs.Common.{◌≡◌, ◌++◌, ℕ, List, length}
use Rattle.acq_commands.specs.Show.{ShowsFirst}
use Rattle.acq_commands.proofs.showing.show_frames.Given as goal

-- the frames so far were shown
abbrev pub invariant-loop-rest : goal.invariant-loop-rest
invariant-loop-rest g l =
    ((messages : List (List ℕ)) × (out : List ℕ) × ShowsFirst l.how l.frames out messages l.rest
    × (g.K.Sink.sent l.output ≡ g.K.Sink.sent l.fn.output ++ out))
    × (g.K.Sink.failures l.output ≡ g.K.Sink.failures l.fn.output)

abbrev pub decreases-loop-rest : goal.decreases-loop-rest
decreases-loop-rest g l = length l.rest
