-- Where in its frames a stream stands, a byte at a time.
use Rattle.std.specs.Prelude.{ℕ, ◌+◌, ◌*◌, ◌-◌, ◌==◌, if◌then◌else◌}
use Rattle.acq_tcp.specs.declared.frame_place.FramePlace.{FramePlace}
use Rattle.acq_tcp.specs.declared.frame_place.FramePlace.TheVariants.{Between, InLength, InMessage}

-- so many bytes of a message are to come
abbrev pub left_to_come : ℕ → FramePlace
left_to_come bytes = if bytes == 0 then Between else InMessage bytes

-- behind one byte more: a length of two bytes, high byte first, and then so many of a message
abbrev pub place_after : FramePlace → ℕ → FramePlace
place_after Between byte = InLength byte
place_after (InLength high) byte = left_to_come (256 * high + byte)
place_after (InMessage left) byte = left_to_come (left - 1)
