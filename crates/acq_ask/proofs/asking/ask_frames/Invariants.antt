use Rattle.std.proofs.Common.{◌≡◌, ◌++◌, List, length}
use Rattle.std.specs.List.{list_any}
use Rattle.acq_link.specs.Frames.{FramesThen}
use Rattle.acq_ask.specs.Asking.{Talk, Took, Turn, is_unanswered, messages}
use Rattle.acq_ask.proofs.asking.ask_frames.Given as goal

-- the turns of the frames so far were taken
abbrev pub invariant-loop-rest : goal.invariant-loop-rest
invariant-loop-rest g l =
    (talk : Talk) × (turns : List Turn)
    × (g.L.Sink.sent l.lines ≡ g.L.Sink.sent l.fn.lines ++ talk.sent)
    × (g.A.Source.received l.answers ≡ g.A.Source.received l.fn.answers ++ talk.came)
    × (g.K.Sink.sent l.output ≡ g.K.Sink.sent l.fn.output ++ talk.shown)
    × FramesThen l.frames (messages turns) l.rest
    × Took l.within talk turns l.held
    × (l.silent ≡ list_any is_unanswered turns)

abbrev pub decreases-loop-rest : goal.decreases-loop-rest
decreases-loop-rest g l = length l.rest
