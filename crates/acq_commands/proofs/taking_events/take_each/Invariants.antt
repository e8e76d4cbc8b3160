-- the events so far were taken, in whole groups
use Rattle.std.proofs.Common.{◌≤◌, ◌-◌, List, length, take}
use Rattle.acq_core.specs.declared.output.Output.{Output}
use Rattle.acq_host.proofs.Runs.{HasTaken}
use Rattle.acq_commands.specs.Groups.{AreWhole}
use Rattle.acq_commands.proofs.taking_events.take_each.Given as goal

abbrev pub invariant-loop-taken : goal.invariant-loop-taken
invariant-loop-taken g l =
    ((said : List Output)
    × HasTaken g.B.Book l.fn.host l.host (take l.taken l.events) said)
    × AreWhole l.group l.taken l.events
    × (l.taken ≤ length l.events)

abbrev pub decreases-loop-taken : goal.decreases-loop-taken
decreases-loop-taken g l = length l.events - l.taken
