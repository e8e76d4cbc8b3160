-- What a call on a line moves, and what a line over a stream shows.
use Rattle.std.specs.Prelude.{ℕ, ◌==◌, Bool, false, List, Option, Some, None, Result, Ok, Err}
use Rattle.acq_front.specs.declared.stream_line.StreamLine.{StreamLine}

-- how many bytes a read or a write moved
abbrev pub moved : {E : Type 0} → Result (Option ℕ) E → ℕ
moved (Ok (Some n)) = n
moved (Ok None) = 0
moved (Err e) = 0

-- whether a read said that the input ended, where the buffer had room
abbrev pub says_end : {E : Type 0} → Result (Option ℕ) E → Bool
says_end (Ok (Some n)) = n == 0
says_end (Ok None) = false
says_end (Err e) = false

module _ {S : Type 0} where
  abbrev pub stream_of : StreamLine S → S
  stream_of l = l.stream

  abbrev pub received_of : StreamLine S → List ℕ
  received_of l = l.received.bytes

  abbrev pub sent_of : StreamLine S → List ℕ
  sent_of l = l.sent.bytes

  abbrev pub has_ended : StreamLine S → Bool
  has_ended l = l.has_ended

  abbrev pub read_failures_of : StreamLine S → ℕ
  read_failures_of l = l.received.failures

  abbrev pub write_failures_of : StreamLine S → ℕ
  write_failures_of l = l.sent.failures
