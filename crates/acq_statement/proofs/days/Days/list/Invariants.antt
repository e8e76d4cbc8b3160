-- the days so far
use Rattle.std.proofs.Common.{◌≡◌}
use Rattle.std.specs.List.{range_with_len}
use Rattle.acq_statement.proofs.days.Days.list.Given as goal

abbrev pub invariant-loop-after : goal.invariant-loop-after
invariant-loop-after l = l.days.items ≡ range_with_len l.first l.after
