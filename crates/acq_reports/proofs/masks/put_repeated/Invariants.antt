use Rattle.std.proofs.Common.{◌≡◌, ◌++◌, replicate}
use Rattle.acq_reports.proofs.masks.put_repeated.Given as goal

abbrev pub invariant-loop : goal.invariant-loop
invariant-loop l = l.text.items ≡ l.fn.text.items ++ replicate l.counter l.b
