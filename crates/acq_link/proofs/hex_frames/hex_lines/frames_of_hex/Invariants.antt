use Rattle.std.proofs.Common.{◌+◌, ◌≤◌, length}
use Rattle.acq_link.proofs.hex_frames.LinesRead.{Stands}
use Rattle.acq_link.proofs.hex_frames.hex_lines.frames_of_hex.Given as goal

-- the lines so far were good, and the frames are those of their messages
abbrev pub invariant-loop-rest : goal.invariant-loop-rest
invariant-loop-rest l = record {
  stands : Stands l.text l.rest l.frames.items l.number;
  short : l.number + length l.rest ≤ length l.text;
}

abbrev pub decreases-loop-rest : goal.decreases-loop-rest
decreases-loop-rest l = length l.rest
