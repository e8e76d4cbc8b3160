use Rattle.std.proofs.Common.{◌≡◌, ◌+◌, ◌*◌, ◌++◌, ℕ, List, length, true}
use Rattle.std.specs.List.{list_any}
use Rattle.std.specs.Io.KnownBytes.{Consumes, IsAtEnd}
use Rattle.acq_control.specs.HostAnswers.{Answer, is_fault}
use Rattle.acq_control.specs.Telling.{Answered, Talk}
use Rattle.acq_control.proofs.Talks.{Came}
use Rattle.acq_control.proofs.telling.tell.Given as goal

-- the lines so far were answered
abbrev pub invariant-loop-held : goal.invariant-loop-held
invariant-loop-held g l =
    ((bytes : List ℕ) × (talk : Talk) × (lines : List (List ℕ)) × (answers : List Answer)
    × (g.S.Source.received l.input ≡ g.S.Source.received l.fn.input ++ bytes)
    × (g.L.Sink.sent l.lines ≡ g.L.Sink.sent l.fn.lines ++ talk.sent)
    × (g.A.Source.received l.answers ≡ g.A.Source.received l.fn.answers ++ talk.came)
    × (g.K.Sink.sent l.output ≡ g.K.Sink.sent l.fn.output ++ talk.shown)
    × (g.F.Sink.sent l.faults ≡ g.F.Sink.sent l.fn.faults ++ talk.told)
    × Answered talk lines answers l.held.items
    × Came bytes lines l.coming.buffer l.coming.ended
    × (l.refused ≡ list_any is_fault answers)
    × Consumes (g.S.Source.remaining l.fn.input) (g.S.Source.remaining l.input) bytes)
    × (l.coming.ended ≡ true → IsAtEnd (g.S.Source.remaining l.input))
    × (g.S.Source.failures l.input + g.A.Source.failures l.answers
    ≡ g.S.Source.failures l.fn.input + g.A.Source.failures l.fn.answers)
    × (g.L.Sink.failures l.lines + g.K.Sink.failures l.output + g.F.Sink.failures l.faults
    ≡ g.L.Sink.failures l.fn.lines + g.K.Sink.failures l.fn.output
    + g.F.Sink.failures l.fn.faults)

abbrev pub decreases-loop-held : goal.decreases-loop-held
decreases-loop-held g l = 16385 * g.S.Source.reads_left l.input + length l.coming.buffer
