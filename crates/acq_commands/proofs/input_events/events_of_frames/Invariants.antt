-- the frames so far are events
use Rattle.std.proofs.Common.{◌≡◌, ℕ, List, length}
use Rattle.acq_link.specs.Frames.{FramesThen}
use Rattle.acq_commands.specs.Explain.{came_at}
use Rattle.acq_commands.proofs.input_events.events_of_frames.Given as goal

abbrev pub invariant-loop-rest : goal.invariant-loop-rest
invariant-loop-rest l =
    (messages : List (List ℕ)) × FramesThen l.frames messages l.rest
    × (l.events.items ≡ came_at l.moment messages)

abbrev pub decreases-loop-rest : goal.decreases-loop-rest
decreases-loop-rest l = length l.rest
