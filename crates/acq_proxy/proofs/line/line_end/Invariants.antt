-- no line ends with a byte that was looked at
use Rattle.std.proofs.Common.{ℕ, ◌+◌, ◌<◌}
use Rattle.acq_proxy.specs.Lines.{EndsAt}
use Rattle.acq_proxy.proofs.line.line_end.Given as goal

abbrev pub invariant-loop-end : goal.invariant-loop-end
invariant-loop-end l = (at : ℕ) → at + 1 < l.end → ¬ EndsAt l.bytes at
