-- What a source over bytes in memory shows.
use Rattle.std.specs.Prelude.{◌≡◌, ◌-◌, ◌^◌, ◌==◌, ◌||◌, ℕ, Bool, false, List, [], Option, Some}
use Rattle.std.specs.Prelude.{None, if◌then◌else◌}
use Rattle.acq_link.specs.declared.slice_source.SliceSource.{SliceSource}

abbrev pub received_of : SliceSource → List ℕ
received_of s = s.transcript.bytes

-- the bytes that are still to come
abbrev pub rest_of : SliceSource → List ℕ
rest_of s = s.rest.now

-- the most that one read gives
abbrev pub piece_of : SliceSource → ℕ
piece_of s = s.piece

-- how many reads come before the one that fails, where one does
abbrev pub before_failure : SliceSource → Option ℕ
before_failure s = s.before_failure

abbrev pub failures_of : SliceSource → ℕ
failures_of s = s.transcript.failures

abbrev pub reads_left_of : SliceSource → ℕ
reads_left_of s = s.reads_left

-- nothing was read yet
pub record IsFresh (s : SliceSource) (bytes : List ℕ) (most : ℕ) (reads : Option ℕ) : Type 0 where
  pub received : received_of s ≡ []
  pub rest : rest_of s ≡ bytes
  pub piece : piece_of s ≡ most
  pub before : before_failure s ≡ reads
  pub failures : failures_of s ≡ 0
  pub reads_left : reads_left_of s ≡ 2 ^ 64 - 1

-- whether no read comes before the one that fails
abbrev pub is_zero : Option ℕ → Bool
is_zero None = false
is_zero (Some before) = before == 0

-- one read fewer comes before the one that fails, which was the last such
abbrev pub one_fewer : Option ℕ → Option ℕ
one_fewer None = None
one_fewer (Some before) = if before == 0 then None else Some (before - 1)

-- whether the next read fails
abbrev pub fails_next : SliceSource → Bool
fails_next s = (reads_left_of s == 0) || is_zero (before_failure s)

-- how many reads come before the one that fails, one read later
abbrev pub before_after : SliceSource → Option ℕ
before_after s = if reads_left_of s == 0 then before_failure s else one_fewer (before_failure s)
