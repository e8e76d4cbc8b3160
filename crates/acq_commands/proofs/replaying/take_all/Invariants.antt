-- the events so far were taken, in whole groups, and their lines written
use Rattle.std.proofs.Common.{◌≡◌, ◌≤◌, ◌-◌, ◌++◌, List, length, take}
use Rattle.std.specs.List.{flat_map}
use Rattle.acq_core.specs.declared.output.Output.{Output}
use Rattle.acq_host.proofs.Runs.{HasTaken}
use Rattle.acq_out.specs.OutputLines.{line_of}
use Rattle.acq_commands.specs.Groups.{AreWhole}
use Rattle.acq_commands.proofs.replaying.take_all.Given as goal

abbrev pub invariant-loop-taken : goal.invariant-loop-taken
invariant-loop-taken g l =
    ((said : List Output)
    × HasTaken g.B.Book l.fn.host l.host (take l.taken l.events) said
    × (g.B.Book.is_honest l.host → g.B.Book.is_open l.fn.host
    → g.K.Sink.sent l.output ≡ g.K.Sink.sent l.fn.output ++ flat_map line_of said))
    × (g.K.Sink.failures l.output ≡ g.K.Sink.failures l.fn.output)
    × AreWhole l.group l.taken l.events
    × (l.taken ≤ length l.events)

abbrev pub decreases-loop-taken : goal.decreases-loop-taken
decreases-loop-taken g l = length l.events - l.taken
