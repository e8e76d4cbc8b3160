use Rattle.std.proofs.Common.{◌≡◌, ◌≤◌, ◌+◌, ◌*◌, ◌++◌, ℕ, List, length, false}
use Rattle.std.specs.Io.KnownBytes.{Consumes}
use Rattle.acq_control.proofs.input_lines.InputLines.take_next.Given as goal

-- what came so far is held
abbrev pub invariant-loop-line : goal.invariant-loop-line
invariant-loop-line g l =
    ((more : List ℕ)
    × (g.S.Source.received l.source ≡ g.S.Source.received l.fn.source ++ more)
    × (l.self.buffer ≡ l.fn.self.buffer ++ more)
    × Consumes (g.S.Source.remaining l.fn.source) (g.S.Source.remaining l.source) more)
    × (l.self.ended ≡ false)
    × (g.S.Source.failures l.source ≡ g.S.Source.failures l.fn.source)
    × (16385 * g.S.Source.reads_left l.source + length l.self.buffer
    ≤ 16385 * g.S.Source.reads_left l.fn.source + length l.fn.self.buffer)

abbrev pub decreases-loop-line : goal.decreases-loop-line
decreases-loop-line g l = g.S.Source.reads_left l.source
