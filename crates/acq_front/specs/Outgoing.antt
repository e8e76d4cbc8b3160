-- What the bytes of one frame that are still to be written show.
use Rattle.std.specs.Prelude.{ℕ, List, [], drop}
use Rattle.acq_link.specs.Frames.{frame}
use Rattle.acq_core.specs.declared.output.Output.{Output}
use Rattle.acq_core.specs.declared.output.Output.TheVariants.{Reply}
use Rattle.acq_front.specs.declared.outgoing.Outgoing.{Outgoing}

abbrev pub frame_of : Outgoing → List ℕ
frame_of o = o.frame

-- how many bytes were written on
abbrev pub gone_from : Outgoing → ℕ
gone_from o = o.gone

abbrev pub bytes_of : Outgoing → List ℕ
bytes_of o = drop (gone_from o) (frame_of o)

-- the frame of what the host said, if it is a reply
abbrev pub frame_said : Output → List ℕ
frame_said (Reply party text) = frame text
frame_said other = []
