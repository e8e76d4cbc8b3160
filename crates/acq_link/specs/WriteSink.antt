-- What a sink over a writer shows.
use Rattle.std.specs.Prelude.{ℕ, List}
use Rattle.acq_link.specs.declared.write_sink.WriteSink.{WriteSink}

module _ {W : Type 0} where
  abbrev pub writer_of : WriteSink W → W
  writer_of s = s.writer

  abbrev pub sent_of : WriteSink W → List ℕ
  sent_of s = s.transcript.bytes

  abbrev pub failures_of : WriteSink W → ℕ
  failures_of s = s.transcript.failures
