-- What a sink over memory shows.
use Rattle.std.specs.Prelude.{◌≡◌, ℕ, List, []}
use Rattle.acq_link.specs.declared.memory_sink.MemorySink.{MemorySink}

abbrev pub sent_of : MemorySink → List ℕ
sent_of s = s.bytes.items

-- the most that one write takes
abbrev pub piece_of : MemorySink → ℕ
piece_of s = s.piece

-- how many bytes it still takes
abbrev pub room_of : MemorySink → ℕ
room_of s = s.room

abbrev pub failures_of : MemorySink → ℕ
failures_of s = s.transcript.failures

-- nothing was written yet
pub record IsFresh (s : MemorySink) (most in_all : ℕ) : Type 0 where
  pub sent : sent_of s ≡ []
  pub piece : piece_of s ≡ most
  pub room : room_of s ≡ in_all
  pub failures : failures_of s ≡ 0
