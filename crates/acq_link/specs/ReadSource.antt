-- What a source over a reader shows.
use Rattle.std.specs.Prelude.{ℕ, List}
use Rattle.acq_link.specs.declared.read_source.ReadSource.{ReadSource}

module _ {R : Type 0} where
  abbrev pub reader_of : ReadSource R → R
  reader_of s = s.reader

  abbrev pub received_of : ReadSource R → List ℕ
  received_of s = s.transcript.bytes

  abbrev pub failures_of : ReadSource R → ℕ
  failures_of s = s.transcript.failures

  abbrev pub reads_left_of : ReadSource R → ℕ
  reads_left_of s = s.reads_left
