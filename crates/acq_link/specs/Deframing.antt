-- Messages out of a stream that comes in pieces.
use Rattle.std.specs.Prelude.{◌+◌, ℕ}
use Rattle.acq_link.specs.Frames.{longest}

-- the most bytes of a frame
abbrev pub longest_frame : ℕ
longest_frame = 2 + longest
