-- the sums so far have the posting, and the others not yet
use Rattle.std.proofs.Common.{◌≡◌, ◌++◌, map, take, drop}
use Rattle.acq_statement.specs.TerminalTotals.{with_posting}
use Rattle.acq_statement.proofs.terminal_sums.add_posting.Given as goal

abbrev pub invariant-loop-at : goal.invariant-loop-at
invariant-loop-at l =
    l.sums ≡ map (with_posting l.posting) (take l.at l.fn.sums) ++ drop l.at l.fn.sums
